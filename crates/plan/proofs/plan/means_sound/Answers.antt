use Rattle.plan.proofs.Facts.{means_sound}
use Rattle.plan.proofs.plan.means_sound.Goals as goal

pub returns : goal.returns
returns c = means_sound
