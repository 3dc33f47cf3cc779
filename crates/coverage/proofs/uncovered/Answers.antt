use Rattle.std.proofs.Common.{◌≡◌, Bool, ℕ, true, false, rules, tests}
use Rattle.std.proofs.lemmas.Iterator.{first_from_Range}
use Rattle.coverage.proofs.Lowest.{lowest}
use Rattle.coverage.proofs.uncovered.Goals as goal
use Rattle.coverage.specs.Coverage.{covered}

pub returns : goal.returns
returns c =
    let f : ℕ → Bool = covered c.args.holdings.now c.args.legs.now in
    lowest c.args.holdings.now c.args.legs.now c.find.result
    (first_from_Range _ _ _ c.find.result (λ i. f i ≡ false) (λ i. f i ≡ true) c.find.ensures.ran
    (λ x q k. search (rules, tests)) (λ x q k. search (rules, tests)))
