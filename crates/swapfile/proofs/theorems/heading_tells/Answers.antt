use Rattle.swapfile.proofs.Headings.{heading_tells}
use Rattle.swapfile.proofs.theorems.heading_tells.Goals as goal

pub returns : goal.returns
returns c = heading_tells
