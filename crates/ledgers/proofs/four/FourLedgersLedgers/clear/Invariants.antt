use Rattle.std.proofs.Common.{◌≡◌, length}
use Rattle.std.specs.List.{AllWithin}
use Rattle.swap.specs.Limits.{book_ledgers}
use Rattle.ledgers.specs.Stocks.{IsEmpty}
use Rattle.ledgers.proofs.four.FourLedgersLedgers.clear.Given as goal

abbrev pub invariant-loop-ledger : goal.invariant-loop-ledger
invariant-loop-ledger g l = record {
  four : length l.ledger-items ≡ book_ledgers;
  empty : AllWithin (λ ledger. IsEmpty (g.L.Ledger.counts ledger)) l.ledger-items 0 l.ledger-index;
}
