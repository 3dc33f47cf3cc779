-- The stock of both books as one: a count for each ledger of the file, holder and unit. Every step is that of the book which has
-- the ledger: a coin book for coin ledgers, a title book for the others.
use Rattle.std.specs.Prelude.{ℕ, zero, suc, Bool, is_err}
use Rattle.ledgers.specs.Calls.{on_ledger, deposit_verdict, credited, deposited, released}
pub use Rattle.ledgers.specs.Stocks.{Stock}
use Rattle.swap.specs.Assets.{rules_of}
use Rattle.swap.specs.Swaps.{Swap}

-- does the book refuse a deposit?
unfoldable pub refuses : ℕ → ℕ → ℕ → ℕ → Stock → Bool
refuses ledger party account asset s = is_err (deposit_verdict (rules_of ledger) party account asset (s ledger))

abbrev pub cleared : Stock
cleared l h u = 0

abbrev pub credit : ℕ → ℕ → ℕ → Stock → Stock
credit ledger party asset = on_ledger ledger (credited (rules_of ledger) party asset)

abbrev pub deposit : ℕ → ℕ → ℕ → ℕ → Stock → Stock
deposit ledger party account asset = on_ledger ledger (deposited (rules_of ledger) party account asset)

abbrev pub release : ℕ → ℕ → ℕ → Stock → Stock
release ledger account party = on_ledger ledger (released account party)

-- the first k holdings of a plan, entered one after another
unfoldable pub entered : Swap → ℕ → Stock
entered p zero = cleared
entered p (suc k) = credit (p.held_on k) (p.holder k) (p.held k) (entered p k)
