-- What each call answers, and what it leaves: on one ledger first, then on a book of four.
use Rattle.std.specs.Prelude.{◌≡◌, ◌≢◌, ℕ, ◌+◌, ◌-◌, Bool, not, ◌&&◌, ◌==◌, nat_lt, if◌then◌else◌, Result, Ok, Err}
use Rattle.ledgers.specs.Stocks.{Counts, IsEmpty, Stock, Rules, worth, is_ledger, is_party, is_account, is_holder, total, content, put}
use Rattle.ledgers.specs.declared.refusals.Refusal.{Refusal}
use Rattle.ledgers.specs.declared.refusals.Refusal.TheVariants.{OutOfRange, OverCeiling, AccountTaken, TooLittle, AccountEmpty}
use Rattle.swap.specs.declared.records.Holder.{Holder}
use Rattle.swap.specs.declared.records.Holder.TheVariants.{Party, Escrow}

-- a call's answer: accepted, or refused for a reason
abbrev pub Answer : Type 0
Answer = Result (Unit {0}) Refusal

-- refused for this reason if the test holds, and judged further if not
abbrev pub refuse : {T : Type 0} → Bool → Refusal → Result T Refusal → Result T Refusal
refuse test reason further = if test then Err reason else further

-- an accepted call has its effect, and a refused one has none
abbrev pub settled : Answer → Counts → Counts → Counts
settled (Ok _) effect before = effect
settled (Err _) effect before = before

-- A call on one ledger: it answers the verdict, and has its effect if it is accepted.
pub record Settles (verdict : Counts → Answer) (effect : Counts → Counts) (before : Counts) (answer : Answer) (after : Counts) : Type 0 where
  pub told : answer ≡ verdict before
  pub counts : (h : Holder) (u : ℕ) → after h u ≡ settled answer (effect before) before h u

module _ (k : Rules) where
  -- Credit is refused exactly if the total of the asset's unit would pass the ceiling.
  abbrev pub credit_verdict : ℕ → ℕ → Counts → Answer
  credit_verdict party asset f =
      refuse (not (is_party party && k.valid asset)) OutOfRange
      (refuse (nat_lt k.ceiling (total f (k.unit asset) + k.amount asset)) OverCeiling (Ok tt))

  abbrev pub credited : ℕ → ℕ → Counts → Counts
  credited party asset f = put f (Party party) (λ u. f (Party party) u + worth k asset u)

  -- Deposit is refused exactly if the account holds something or the party has too little.
  abbrev pub deposit_verdict : ℕ → ℕ → ℕ → Counts → Answer
  deposit_verdict party account asset f =
      refuse (not (is_party party && is_account account && k.valid asset)) OutOfRange
      (refuse (nat_lt 0 (content k f account)) AccountTaken
      (refuse (nat_lt (f (Party party) (k.unit asset)) (k.amount asset)) TooLittle (Ok tt)))

  abbrev pub deposited : ℕ → ℕ → ℕ → Counts → Counts
  deposited party account asset f =
      put (put f (Party party) (λ u. f (Party party) u - worth k asset u)) (Escrow account) (λ u. f (Escrow account) u + worth k asset u)

  -- Release is refused exactly if the account is empty.
  abbrev pub release_verdict : ℕ → ℕ → Counts → Answer
  release_verdict account party f =
      refuse (not (is_account account && is_party party)) OutOfRange
      (refuse (content k f account == 0) AccountEmpty (Ok tt))

  -- Balance tells one count.
  abbrev pub balance_verdict : Holder → ℕ → Counts → Result ℕ Refusal
  balance_verdict holder unit f = refuse (not (is_holder holder && nat_lt unit k.units)) OutOfRange (Ok (f holder unit))

abbrev pub released : ℕ → ℕ → Counts → Counts
released account party f =
    put (put f (Party party) (λ u. f (Party party) u + f (Escrow account) u)) (Escrow account) (λ _. 0)

-- The same on a book: the ledger must exist, and the others stay as they are.
pub record OnLedger (ledger : ℕ) (verdict : Counts → Answer) (effect : Counts → Counts) (before : Stock) (answer : Answer) (after : Stock) : Type 0 where
  pub told : answer ≡ refuse (not (is_ledger ledger)) OutOfRange (verdict (before ledger))
  pub counts : (h : Holder) (u : ℕ) → after ledger h u ≡ settled answer (effect (before ledger)) (before ledger) h u
  pub others : (l : ℕ) → (l ≢ ledger) → (h : Holder) (u : ℕ) → after l h u ≡ before l h u

-- the stock after an effect on one ledger
abbrev pub on_ledger : ℕ → (Counts → Counts) → Stock → Stock
on_ledger ledger effect s l h u = if l == ledger then effect (s l) h u else s l h u

abbrev pub Cleared : Stock → Type 0
Cleared after = (l : ℕ) → IsEmpty (after l)

module _ (k : Rules) (ledger : ℕ) where
  abbrev pub Credited : ℕ → ℕ → Stock → Answer → Stock → Type 0
  Credited party asset = OnLedger ledger (credit_verdict k party asset) (credited k party asset)

  abbrev pub Deposited : ℕ → ℕ → ℕ → Stock → Answer → Stock → Type 0
  Deposited party account asset = OnLedger ledger (deposit_verdict k party account asset) (deposited k party account asset)

  abbrev pub Released : ℕ → ℕ → Stock → Answer → Stock → Type 0
  Released account party = OnLedger ledger (release_verdict k account party) (released account party)

  abbrev pub Told : Holder → ℕ → Stock → Result ℕ Refusal → Type 0
  Told holder unit s answer = answer ≡ refuse (not (is_ledger ledger)) OutOfRange (balance_verdict k holder unit (s ledger))
