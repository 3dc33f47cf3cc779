use Rattle.std.proofs.Common.{true, false, rules, tests}
use Rattle.std.proofs.lemmas.Iterator.{first_from_Range}
use Rattle.graph.proofs.Statements.{cut_off_is}
use Rattle.graph.proofs.Graph.cut_off.Goals as goal
use Rattle.graph.specs.Graphs.{Among, count}
use Rattle.graph.specs.Search.{Linked}

pub returns : goal.returns
returns c =
    let n = count c.args.self.now.parties in
    let P = Among n c.args.self.now.legs.now in
    cut_off_is P n c.count.result c.count.ensures c.find.result
    (first_from_Range _ _ _ c.find.result (λ p. Linked P 0 p false) (λ p. Linked P 0 p true) c.find.ensures.ran
    (λ x q k. search (rules, tests)) (λ x q k. search (rules, tests)))
