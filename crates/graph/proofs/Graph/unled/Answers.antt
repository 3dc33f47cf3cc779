use Rattle.std.proofs.Common.{ℕ, rules, tests}
use Rattle.std.proofs.lemmas.Iterator.{first_from_Range}
use Rattle.graph.proofs.Statements.{unled_is}
use Rattle.graph.proofs.Graph.unled.Goals as goal
use Rattle.graph.specs.Graphs.{Pays, count}
use Rattle.graph.specs.Search.{Round}

pub returns : goal.returns
returns c =
    let legs = c.args.self.now.legs.now in
    let R : ℕ → Type 0 = λ p. Round (Pays legs) c.besides-free.result p in
    unled_is legs (count c.args.self.now.parties) c.args.leaders.bits c.besides-free.result c.besides-free.ensures
    c.count.result c.count.ensures c.find.result
    (first_from_Range _ _ _ c.find.result R (λ p. R p → ⊥) c.find.ensures.ran
    (λ x q k. search (rules, tests)) (λ x q k. search (rules, tests)))
