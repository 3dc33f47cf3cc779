use Rattle.std.proofs.Common.{refl, arith, ltb-false}
use Rattle.std.proofs.lemmas.Result.{err_from_is_err_and}
use Rattle.records.proofs.Tails.{refused, found}
use Rattle.records.proofs.reader.Reader.next.Goals as goal

pub returns-in_err-record-clause-found : goal.returns-in_err-record-clause-found
returns-in_err-record-clause-found c =
    let p = err_from_is_err_and c.from_residual.result c.from_residual.ensures.1 in
    let e = c.in_err-record.ensures in
    refused c.args.self.now.bytes.now c.args.self.now.at _ _ c.in_err-record.field-0.0 _ p.1 p.2 e.0 (omega (arith, ltb-false)) e.1

pub returns-clause-found : goal.returns-clause-found
returns-clause-found c =
    let e = c.in_ok-record.ensures in
    (refl, e.1, found c.args.self.now.bytes.now c.args.self.now.at _ _ _ (omega (arith, ltb-false)) e.0 e.2)
