use Rattle.std.proofs.Common.{arith}
use Rattle.ledgers.proofs.Rows.{all_cleared}
use Rattle.ledgers.proofs.four.FourLedgersLedgers.clear.Goals as goal

pub returns : goal.returns
returns g c =
    all_cleared g.L.Ledger.counts c.loop-ledger.ledger-items (λ k d lt. c.loop-ledger.invariant.empty k d (omega arith) (omega arith))
