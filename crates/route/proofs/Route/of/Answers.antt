use Rattle.route.proofs.Lists.{is_route}
use Rattle.route.proofs.Route.of.Goals as goal

pub invariant_of-result : goal.invariant_of-result
invariant_of-result c = rw c.copy_from_slice.ensures.after (is_route c.args.parties.now c.requires)
