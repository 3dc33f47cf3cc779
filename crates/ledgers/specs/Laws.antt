-- Laws that hold of every book, whatever it keeps its stock in.
use Rattle.std.specs.Prelude.{◌≡◌, ℕ, ◌+◌, ◌<◌, Ok, Err, ◌==◌, if◌then◌else◌}
use Rattle.ledgers.specs.Calls.{Answer, OnLedger, on_ledger, Credited, Deposited, Released}
use Rattle.ledgers.specs.Stocks.{Counts, Stock, Rules, Lawful, total, worth}
use Rattle.swap.specs.declared.records.Holder.{Holder}

-- what holds if a call was accepted, and what if it was refused
abbrev pub Then : Answer → Type 0 → Type 0 → Type 0
Then (Ok _) P Q = P
Then (Err _) P Q = Q

-- What a call leaves, of the whole stock: accepted, its effect on the one ledger; refused, all as it was.
abbrev pub CallsAreSteps : Type 0
CallsAreSteps =
    (ledger : ℕ) (verdict : Counts → Answer) (effect : Counts → Counts) (s s' : Stock) (answer : Answer)
    → OnLedger ledger verdict effect s answer s' → Then answer (s' ≡ on_ledger ledger effect s) (s' ≡ s)

-- every unit has the same count
abbrev pub Unmoved : Rules → Stock → Stock → Type 0
Unmoved k s s' = (l : ℕ) (h : Holder) (u : ℕ) → u < k.units → s' l h u ≡ s l h u

-- every ledger has the same totals
abbrev pub SameTotals : Stock → Stock → Type 0
SameTotals s s' = (l u : ℕ) → total (s' l) u ≡ total (s l) u

-- A payment through an escrow account: a deposit and, if it was accepted, a release to the receiver.
pub record PaidThrough (k : Rules) (ledger payer account receiver asset : ℕ) (s : Stock) (answer : Answer) (s'' : Stock) : Type 0 where
  pub first : Answer
  pub s' : Stock
  pub put_up : Deposited k ledger payer account asset s first s'
  pub passed_on : Then first (Released k ledger account receiver s' answer s'') ((answer ≡ first) × (s'' ≡ s'))

-- A deposit that is released to the payer is accepted again, and gives back the stock.
abbrev pub DepositsComeBack : Type 0
DepositsComeBack =
    (k : Rules) → Lawful k → (ledger party account asset : ℕ) (s s' s'' : Stock) (answer : Answer)
    → Deposited k ledger party account asset s (Ok tt) s' → Released k ledger account party s' answer s''
    → (answer ≡ Ok tt) × Unmoved k s s''

-- Deposit and release keep every total.
abbrev pub DepositsKeepTotals : Type 0
DepositsKeepTotals =
    (k : Rules) (ledger party account asset : ℕ) (s s' : Stock) (answer : Answer)
    → Deposited k ledger party account asset s answer s' → SameTotals s s'

abbrev pub ReleasesKeepTotals : Type 0
ReleasesKeepTotals =
    (k : Rules) (ledger account party : ℕ) (s s' : Stock) (answer : Answer)
    → Released k ledger account party s answer s' → SameTotals s s'

-- Credit raises the total of its ledger by what the asset is worth.
abbrev pub CreditsRaiseTotals : Type 0
CreditsRaiseTotals =
    (k : Rules) (ledger party asset : ℕ) (s s' : Stock)
    → Credited k ledger party asset s (Ok tt) s'
    → (l u : ℕ) → total (s' l) u ≡ total (s l) u + (if l == ledger then worth k asset u else 0)
