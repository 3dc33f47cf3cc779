use Rattle.std.proofs.Common.{drop, Some, sym, ap, ◌∙◌, option_map, arith, rules}
use Rattle.route.proofs.Lists.{proper_rest, suffix_is}
use Rattle.route.proofs.Route.tail.Goals as goal
use Rattle.std.proofs.lemmas.Slice.{between_to_end}

pub returns-in_err-place : goal.returns-in_err-place
returns-in_err-place c =
    c.from_residual.ensures
    ∙ ap (option_map (λ i. drop i c.args.self.now)) c.in_err-place.ensures
    ∙ sym (suffix_is c.args.party c.args.self.now)

pub of-requires : goal.of-requires
of-requires c = proper_rest _ c.parties.result.now (rw c.parties.ensures.parties c.parties.ensures.proper) (search rules)

pub returns : goal.returns
returns c =
    let i = c.in_ok-place.place in
    let rest = between_to_end c.parties.result.now i _ (omega arith) in
    ap Some (c.of.ensures ∙ rest ∙ ap (drop i) c.parties.ensures.parties)
    ∙ ap (option_map (λ i. drop i c.args.self.now)) c.in_ok-place.ensures
    ∙ sym (suffix_is c.args.party c.args.self.now)
