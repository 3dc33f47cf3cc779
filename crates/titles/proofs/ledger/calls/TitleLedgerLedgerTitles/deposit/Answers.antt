use Rattle.std.proofs.Common.{arith, rules}
use Rattle.titles.proofs.Holding.{deposit_done, deposit_little, deposit_taken}
use Rattle.titles.proofs.ledger.calls.TitleLedgerLedgerTitles.deposit.Goals as goal

pub returns-then-is_taken : goal.returns-then-is_taken
returns-then-is_taken c =
    deposit_taken c.args.self.now.holders (omega arith) _ _ _
    c.in_ok-party_place.ensures c.in_ok-account_place.ensures c.in_ok-title.ensures c.if-is_taken.ensures

pub returns-then-ne : goal.returns-then-ne
returns-then-ne c =
    deposit_little c.args.self.now.holders (omega arith) _ _ _
    c.in_ok-party_place.ensures c.in_ok-account_place.ensures c.in_ok-title.ensures c.if-is_taken.ensures (search rules)

pub returns : goal.returns
returns c =
    deposit_done c.args.self.now.holders (omega arith) _ _ _
    c.in_ok-party_place.ensures c.in_ok-account_place.ensures c.in_ok-title.ensures c.if-is_taken.ensures (search rules)
