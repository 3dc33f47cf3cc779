use Rattle.coins.proofs.Held.{nothing}
use Rattle.swap.specs.Limits.{max_legs, max_parties}
use Rattle.coins.proofs.ledger.calls.CoinLedgerEmptyLedgerCoins.empty.Goals as goal

pub returns : goal.returns
returns c = nothing max_parties max_legs
