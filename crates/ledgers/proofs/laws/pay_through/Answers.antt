use Rattle.std.proofs.Common.{◌∙◌}
use Rattle.ledgers.proofs.LawsHold.{deposits_come_back, deposits_keep_totals, releases_keep_totals}
use Rattle.ledgers.proofs.laws.pay_through.Goals as goal

pub returns-clause-kept : goal.returns-clause-kept
returns-clause-kept g c l u =
    releases_keep_totals g.K.Kind.rules c.args.ledger c.args.account c.args.receiver _ _ c.release.result c.release.ensures l u
    ∙ deposits_keep_totals g.K.Kind.rules c.args.ledger c.args.payer c.args.account c.args.asset _ _ _ c.in_ok-deposit.ensures l u

pub returns-clause-back : goal.returns-clause-back
returns-clause-back g c same =
    let back = rw same at c.release.ensures in
    (deposits_come_back g.K.Kind.rules g.K.Kind.lawful c.args.ledger c.args.payer c.args.account c.args.asset _ _ _ c.release.result
    c.in_ok-deposit.ensures back).1
