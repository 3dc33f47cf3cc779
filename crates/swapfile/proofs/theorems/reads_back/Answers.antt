use Rattle.swapfile.proofs.Unique.{reads_back}
use Rattle.swapfile.proofs.theorems.reads_back.Goals as goal

pub returns : goal.returns
returns c = reads_back
