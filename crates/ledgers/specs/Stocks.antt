-- What a book means: its stock.
use Rattle.std.specs.Prelude.{◌≡◌, ℕ, ◌+◌, ◌<◌, ◌≤◌, Bool, false, ◌==◌, nat_lt, if◌then◌else◌, IsTrue}
pub use Rattle.swap.specs.Assets.{Rules, worth, coin_rules, title_rules}
pub use Rattle.swap.specs.Holders.{is_party, is_account, is_holder}
use Rattle.swap.specs.Limits.{book_ledgers, max_legs, max_parties}
use Rattle.swap.specs.Below.{sum_below}
use Rattle.swap.specs.declared.records.Holder.{Holder}
use Rattle.swap.specs.declared.records.Holder.TheVariants.{Party, Escrow}

-- what is on one ledger: a count for each holder and unit
abbrev pub Counts : Type 0
Counts = Holder → ℕ → ℕ

-- nothing is on a ledger
abbrev pub IsEmpty : Counts → Type 0
IsEmpty f = (h : Holder) (u : ℕ) → f h u ≡ 0

-- what is in a book: the counts of each ledger
abbrev pub Stock : Type 0
Stock = ℕ → Counts

-- every asset is something, of a unit that exists
abbrev pub Lawful : Rules → Type 0
Lawful k = (asset : ℕ) → IsTrue (k.valid asset) → (1 ≤ k.amount asset) × (k.unit asset < k.units)

-- the ledgers that there can be
abbrev pub is_ledger : ℕ → Bool
is_ledger ledger = nat_lt ledger book_ledgers

abbrev pub same : Holder → Holder → Bool
same (Party p) (Party q) = p == q
same (Party p) (Escrow b) = false
same (Escrow a) (Party q) = false
same (Escrow a) (Escrow b) = a == b

-- what all holders together have of a unit
abbrev pub total : Counts → ℕ → ℕ
total f unit = sum_below max_parties (λ p. f (Party p) unit) + sum_below max_legs (λ a. f (Escrow a) unit)

-- all that an escrow account holds, of whatever unit
abbrev pub content : Rules → Counts → ℕ → ℕ
content k f account = sum_below k.units (f (Escrow account))

-- the same counts, but for one holder
abbrev pub put : Counts → Holder → (ℕ → ℕ) → Counts
put f holder has h u = if same h holder then has u else f h u
