use Rattle.std.proofs.Common.{length, ap, ◌∙◌, arith, rules, tests}
use Rattle.std.proofs.lemmas.Iterator.{cases_from_all, YieldsList-from_zip, YieldsList-from_slice}
use Rattle.std.proofs.lemmas.Slice.{between_to_end}
use Rattle.graph.proofs.Statements.{joined_is}
use Rattle.graph.specs.Graphs.{Pays}
use Rattle.graph.proofs.Graph.joined.Goals as goal
use Rattle.std.specs.Slice.Iter.{iter_rest}

pub returns : goal.returns
returns c =
    let ps = c.parties-parties.result.now in
    let P = Pays c.args.self.now.legs.now in
    let proper = rw (← c.parties-parties.ensures.parties) at c.parties-parties.ensures.proper in
    let first = ap (λ i. iter_rest i) c.zip.ensures.first ∙ c.iter.ensures.rest in
    let pairs =
    YieldsList-from_zip {s = c.zip.result}
    (YieldsList-from_slice {s = c.zip.result.a} ps first) (YieldsList-from_slice {s = c.zip.result.b} _ c.zip.ensures.second.0) in
    rw c.parties-parties.ensures.parties at
    (joined_is P ps _ proper (between_to_end ps 1 (length ps) (omega arith)) c.all.result
    (cases_from_all c.all.new.self _ c.all.result (λ p. P p.0 p.1) (λ p. P p.0 p.1 → ⊥) c.all.ensures.ran pairs
    (λ x q k. search (rules, tests)) (λ x q k. search (rules, tests))))
