use Rattle.graph.proofs.Statements.{SpanBelow}
use Rattle.graph.proofs.Graph.span.Given as goal
use Rattle.graph.specs.Graphs.{Among, count}

abbrev pub invariant-loop-x : goal.invariant-loop-x
invariant-loop-x l = SpanBelow (Among (count l.self.parties) l.self.legs.now) (count l.self.parties) l.x l.most
