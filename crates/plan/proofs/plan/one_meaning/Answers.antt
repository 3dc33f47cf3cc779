use Rattle.plan.proofs.Facts.{one_meaning}
use Rattle.plan.proofs.plan.one_meaning.Goals as goal

pub returns : goal.returns
returns c = one_meaning
