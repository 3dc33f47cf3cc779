use Rattle.std.proofs.Common.{ap, ◌∙◌}
use Rattle.route.proofs.Lists.{found}
use Rattle.route.proofs.Route.contains.Goals as goal
use Rattle.swap.specs.Routes.{mem}

pub returns : goal.returns
returns c = c.contains.ensures.value ∙ found c.args.party c.parties.result.now ∙ ap (mem c.args.party) c.parties.ensures.parties
