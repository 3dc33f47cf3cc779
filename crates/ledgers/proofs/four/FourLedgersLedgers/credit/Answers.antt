use Rattle.std.proofs.Common.{arith}
use Rattle.ledgers.proofs.Rows.{on_ledger}
use Rattle.ledgers.proofs.four.FourLedgersLedgers.credit.Goals as goal

pub returns : goal.returns
returns g c = on_ledger g.L.Ledger.counts c.args.self.now.ledgers (omega arith) _ _ _ _ _ _ _ c.in_ok-self.ensures c.credit.ensures
