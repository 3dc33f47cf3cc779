use Rattle.ledgers.proofs.LawsHold.{deposits_come_back}
use Rattle.ledgers.proofs.laws.deposits_come_back.Goals as goal

pub returns : goal.returns
returns c = deposits_come_back
