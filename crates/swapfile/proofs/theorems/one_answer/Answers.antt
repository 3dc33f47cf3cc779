use Rattle.swapfile.proofs.Unique.{one_answer}
use Rattle.swapfile.proofs.theorems.one_answer.Goals as goal

pub returns : goal.returns
returns c = one_answer
