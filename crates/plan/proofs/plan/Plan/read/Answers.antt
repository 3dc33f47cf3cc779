use Rattle.plan.proofs.Exits.{file_refused, plan_refused, plan_accepted}
use Rattle.plan.proofs.plan.Plan.read.Goals as goal
use Rattle.std.proofs.lemmas.Result.{err_from_is_err_and}
use Rattle.swapfile.specs.Reads.{content_of}

pub returns-in_err-file : goal.returns-in_err-file
returns-in_err-file c =
    let p = err_from_is_err_and c.from_residual.result c.from_residual.ensures.1 in
    file_refused c.args.bytes.now c.from_residual.result p.0 c.in_err-file.field-0.0 p.1 p.2 c.in_err-file.ensures.answer

pub returns-in_err-span : goal.returns-in_err-span
returns-in_err-span c =
    let p = err_from_is_err_and c.from_residual-in_err-span.result c.from_residual-in_err-span.ensures.1 in
    plan_refused c.args.bytes.now (content_of c.in_ok-file.file) c.in_ok-file.ensures.answer
    c.from_residual-in_err-span.result p.0 c.in_err-span.field-0.0 p.1 p.2 c.in_err-span.ensures

pub returns : goal.returns
returns c =
    plan_accepted c.args.bytes.now (content_of c.in_ok-file.file) c.in_ok-file.ensures.answer c.in_ok-span.span c.in_ok-span.ensures
