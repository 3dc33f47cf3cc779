-- The stock of a list of ledgers. Past its end every count is 0.
use Rattle.std.specs.Prelude.{List, map, slice_index}
use Rattle.ledgers.specs.Stocks.{Counts, Stock}

abbrev pub stock_of : {L : Type 0} → (L → Counts) → List L → Stock
stock_of counts ledgers ledger holder unit = slice_index (map (λ l. counts l holder unit) ledgers) ledger
