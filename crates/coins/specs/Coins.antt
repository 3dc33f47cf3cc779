-- What a ledger of coins means.
use Rattle.std.specs.Prelude.{ℕ, List, ◌==◌, slice_index, if◌then◌else◌}
use Rattle.coins.specs.declared.ledger.CoinLedger.{CoinLedger}
use Rattle.ledgers.specs.Stocks.{Counts}
use Rattle.swap.specs.declared.records.Holder.TheVariants.{Party, Escrow}

-- all coins are of unit 0
abbrev pub held : List ℕ → List ℕ → Counts
held parties accounts (Party p) unit = if unit == 0 then slice_index parties p else 0
held parties accounts (Escrow a) unit = if unit == 0 then slice_index accounts a else 0

abbrev pub coins_on : CoinLedger → Counts
coins_on ledger = held ledger.parties ledger.accounts
