use Rattle.std.proofs.Common.{sym, ap, ◌∙◌}
use Rattle.records.proofs.reader.steps.framed.Goals as goal
use Rattle.records.specs.Reading.{short}
use Rattle.records.specs.Records.{body_size}

pub returns-in_default-split_at_checked : goal.returns-in_default-split_at_checked
returns-in_default-split_at_checked c =
    let cut = c.at-in_default-split_at_checked.ensures in
    let known = ap body_size (sym c.in-Ok.ensures) ∙ c.body_len.ensures in
    (cut.place, short c.body_len.result known c.in_default-split_at_checked.ensures.cases cut.reason)
