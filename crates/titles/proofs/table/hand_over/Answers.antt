use Rattle.std.proofs.Common.{arith}
use Rattle.titles.proofs.Holding.{handed_all}
use Rattle.titles.proofs.table.hand_over.Goals as goal

pub returns : goal.returns
returns c =
    handed_all c.args.titles.now _ c.args.from c.args.to c.loop-title.title-index (omega arith)
    c.loop-title.invariant.done c.loop-title.invariant.rest
