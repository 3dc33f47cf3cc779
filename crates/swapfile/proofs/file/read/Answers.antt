use Rattle.filerules.specs.Said.{said}
use Rattle.records.specs.Reading.{source, place}
use Rattle.std.proofs.lemmas.Result.{err_from_is_err_and}
use Rattle.swapfile.proofs.Rules.{ruled}
use Rattle.swapfile.proofs.Steps.{sized, found_as, passed, advance, stops, turned_down, accepts}
use Rattle.swapfile.proofs.file.read.Goals as goal
use Rattle.swapfile.specs.Files.{unread}

pub returns-in_err-at-clause-answer : goal.returns-in_err-at-clause-answer
returns-in_err-at-clause-answer c =
    let d = c.loop-draft in
    let n = c.in_err-at.ensures.found in
    let p = err_from_is_err_and c.from_residual.result c.from_residual.ensures.1 in
    let z = sized c.args.bytes.now c.if-is_unsized.ensures in
    let u = n.1 in
    passed _ _ p.0 c.in_err-at.field-0.0 p.1 p.2
    (stops _ (source d.reader) (place d.reader) (said d.draft) d.invariant d.reader.inside z c.in_err-at.field-0.0 n.0
    (unread u.0 u.1 u.2 u.3))

pub loop-draft-preserved : goal.loop-draft-preserved
loop-draft-preserved c =
    let d = c.loop-draft in
    let n = found_as (source d.reader) (place d.reader) (place c.next.new.self) c.in_ok-at.field-0 _ c.in-Some.is c.in_ok-at.ensures.found in
    let t = c.in_ok-take_in.ensures in
    advance c.args.bytes.now (source d.reader) (place d.reader) (said d.draft) d.invariant (source c.next.new.self) (place c.next.new.self) (said c.take_in.new.draft) c.in-Some.«record» t.0 c.next.ensures.same n.2 t.1 t.2 t.3

pub returns-in_err-take_in-clause-answer : goal.returns-in_err-take_in-clause-answer
returns-in_err-take_in-clause-answer c =
    let d = c.loop-draft in
    let n = found_as (source d.reader) (place d.reader) (place c.next.new.self) c.in_ok-at.field-0 _ c.in-Some.is c.in_ok-at.ensures.found in
    let p = err_from_is_err_and c.from_residual-in_err-take_in.result c.from_residual-in_err-take_in.ensures.1 in
    let z = sized c.args.bytes.now c.if-is_unsized.ensures in
    turned_down _ (source d.reader) (place d.reader) (said d.draft) d.invariant d.reader.inside z _ (place c.next.new.self) (said c.take_in.new.draft)
    c.in-Some.«record» n.0 n.2 _ p.0 _ p.1 p.2 c.in_err-take_in.ensures

pub returns-clause-ruled : goal.returns-clause-ruled
returns-clause-ruled c =
    let d = c.loop-draft in
    let n = found_as (source d.reader) (place d.reader) _ _ _ c.in_default.is c.in_ok-at.ensures.found in
    let z = sized c.args.bytes.now c.if-is_unsized.ensures in
    ruled c.args.bytes.now _
    (accepts _ (source d.reader) (place d.reader) (said d.draft) d.invariant d.reader.inside z _ n.0
    c.in_ok-finish.ensures)
