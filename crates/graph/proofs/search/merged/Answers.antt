use Rattle.std.proofs.Common.{ℕ, max, get_or, ap, rules, arith, ⊎_elim}
use Rattle.graph.proofs.Made.{made_at}
use Rattle.graph.proofs.search.merged.Goals as goal
use Rattle.graph.specs.Search.{longer}
use Rattle.std.proofs.lemmas.Bool.{cases_lt}
use Rattle.std.proofs.lemmas.List.{get_or_past}

pub returns : goal.returns
returns c = λ y.
    let h : ℕ → ℕ = λ k. max (get_or c.args.best k 0) (longer (get_or c.args.further k 0)) in
    ⊎_elim
    (λ l. made_at _ h _ _ (λ i r q k. search rules) 8 0 y 0 c.from_fn.ensures.items.each (omega arith) l)
    (λ l.
    let n = ap longer (get_or_past c.args.further y 0 (omega arith)) in
    let b = get_or_past c.args.best y 0 (omega arith) in
    let r = get_or_past c.from_fn.result y 0 (omega arith) in
    omega arith)
    (cases_lt y 8)
