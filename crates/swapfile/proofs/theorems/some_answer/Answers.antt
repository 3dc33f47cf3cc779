use Rattle.swapfile.proofs.Total.{some_answer}
use Rattle.swapfile.proofs.theorems.some_answer.Goals as goal

pub returns : goal.returns
returns c = some_answer
