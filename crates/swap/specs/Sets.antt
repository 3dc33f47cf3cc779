-- Sets of parties as numbers: party p is the bit of value 2 ^ p.
use Rattle.std.specs.Prelude.{ℕ, ◌/◌, ◌%◌, ◌^◌, Bool, true, false, ◌==◌}

abbrev pub member : ℕ → ℕ → Bool
member set p = (set / 2 ^ p) % 2 == 1

-- the test answers true exactly if the statement holds
abbrev pub Exactly : Bool → Type 0 → Type 0
Exactly true P = P
Exactly false P = P → ⊥
