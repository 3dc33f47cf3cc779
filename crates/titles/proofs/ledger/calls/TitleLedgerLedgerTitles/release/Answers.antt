use Rattle.std.proofs.Common.{arith}
use Rattle.titles.proofs.Holding.{release_done, release_empty}
use Rattle.titles.proofs.ledger.calls.TitleLedgerLedgerTitles.release.Goals as goal

pub returns-then-not-is_taken : goal.returns-then-not-is_taken
returns-then-not-is_taken c =
    release_empty c.args.self.now.holders (omega arith) _ _
    c.in_ok-account_place.ensures c.in_ok-party_place.ensures c.if-not-is_taken.ensures

pub returns : goal.returns
returns c =
    release_done c.args.self.now.holders (omega arith) _ _
    c.in_ok-account_place.ensures c.in_ok-party_place.ensures _ c.if-not-is_taken.ensures c.hand_over.ensures
