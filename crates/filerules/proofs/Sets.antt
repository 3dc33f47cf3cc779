-- Whether a set is within the first n parties.
use Rattle.std.proofs.Common.{◌≡◌, ℕ, ◌^◌, ◌<◌, Bool, true, false, refl}
use Rattle.filerules.specs.Fields.{within}
use Rattle.swap.proofs.Bits.{tells}
use Rattle.swap.specs.Sets.{member, Exactly}

-- two tests of one statement agree
pub agree : (P : Type 0) (a b : Bool) → Exactly a P → Exactly b P → a ≡ b
agree P true true p q = refl
agree P true false p q = absurd (q p)
agree P false true p q = absurd (p q)
agree P false false p q = refl

pub within_is :
    (set n : ℕ) (b : Bool) → set < 2 ^ 16 → Exactly b ((p : ℕ) → member set p ≡ true → p < n) → b ≡ within set n
within_is set n b fits told = agree _ _ _ told (tells set n fits)
