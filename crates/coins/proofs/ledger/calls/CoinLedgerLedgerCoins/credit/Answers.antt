use Rattle.std.proofs.Common.{ℕ, arith}
use Rattle.std.proofs.lemmas.Bool.Decides.{nat_tests}
use Rattle.std.proofs.lemmas.List.Sums.{sum_by-set}
use Rattle.coins.proofs.ledger.calls.CoinLedgerLedgerCoins.credit.Goals as goal

pub invariant_of-self : goal.invariant_of-self
invariant_of-self c =
    let put = λ (coins : ℕ). sum_by-set (λ x. x) c.args.self.now.parties c.in_ok-party.party coins 0 (grind (arith, nat_tests)) in
    record { covered = omega (arith, c.args.self.now.covered, put) }
