use Rattle.graph.proofs.Sizes.{size}
use Rattle.graph.proofs.Steps.{Begun}
use Rattle.graph.proofs.search.+row.Given as goal

abbrev pub decreases-row : goal.decreases-row
decreases-row l = size l.free

abbrev pub invariant-loop-leg : goal.invariant-loop-leg
invariant-loop-leg l = Begun l.legs l.free l.x l.leg-index l.best
