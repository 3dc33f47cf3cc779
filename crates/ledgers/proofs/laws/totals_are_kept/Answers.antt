use Rattle.ledgers.proofs.LawsHold.{deposits_keep_totals, releases_keep_totals}
use Rattle.ledgers.proofs.laws.totals_are_kept.Goals as goal

pub returns-clause-by_deposits : goal.returns-clause-by_deposits
returns-clause-by_deposits c = deposits_keep_totals

pub returns-clause-by_releases : goal.returns-clause-by_releases
returns-clause-by_releases c = releases_keep_totals
