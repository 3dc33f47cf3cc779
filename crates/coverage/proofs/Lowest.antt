-- The first leg that a search finds uncovered is the lowest.
use Rattle.std.proofs.Common.{◌≡◌, ℕ, ◌<◌, ◌≤◌, true, false, List, length, Some, None, Option, MatchOption, arith}
use Rattle.coverage.specs.Coverage.{Uncovered, covered}
use Rattle.swap.specs.declared.records.Holding.{Holding}
use Rattle.swap.specs.declared.records.Leg.{Leg}

pub lowest : (holdings : List Holding) (legs : List Leg) (found : Option ℕ)
    → MatchOption found ((k : ℕ) → 0 ≤ k → k < length legs → covered holdings legs k ≡ true)
    (λ i. (0 ≤ i) × (i < length legs) × (covered holdings legs i ≡ false) × ((k : ℕ) → 0 ≤ k → k < i → covered holdings legs k ≡ true))
    → Uncovered holdings legs found
lowest holdings legs None h = λ i l. h i (omega arith) l
lowest holdings legs (Some i) h = (h.1, h.2, λ j l. h.3 j (omega arith) l)
