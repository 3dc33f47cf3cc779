use Rattle.std.proofs.Common.{length, sym, ap, ◌∙◌, arith, not}
use Rattle.route.proofs.Lists.{distinct_rest}
use Rattle.route.proofs.methods.+are_distinct.Goals as goal
use Rattle.std.proofs.lemmas.Slice.{between_to_end}

pub returns-then-not-contains : goal.returns-then-not-contains
returns-then-not-contains t c =
    let ps = c.args.parties.now in
    let e = distinct_rest ps _ c.in-len1-up.len_at_least (between_to_end ps 1 (length ps) (omega arith)) in
    let h = sym c.contains.ensures.value ∙ c.if-not-contains.true in
    c.are_distinct.ensures ∙ sym (rw h at e)

pub returns-else-not-contains : goal.returns-else-not-contains
returns-else-not-contains t c =
    let ps = c.args.parties.now in
    let e = distinct_rest ps _ c.in-len1-up.len_at_least (between_to_end ps 1 (length ps) (omega arith)) in
    let h = sym c.contains.ensures.value ∙ c.if-not-contains.false in
    ap not c.if-not-contains.false ∙ sym (rw h at e)
