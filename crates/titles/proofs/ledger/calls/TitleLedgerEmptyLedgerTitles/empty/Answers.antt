use Rattle.swap.specs.Limits.{titles}
use Rattle.titles.proofs.Holding.{all_exist, nothing}
use Rattle.titles.proofs.ledger.calls.TitleLedgerEmptyLedgerTitles.empty.Goals as goal

pub invariant_of-result : goal.invariant_of-result
invariant_of-result c = record { held = all_exist titles }

pub returns : goal.returns
returns c = nothing titles
