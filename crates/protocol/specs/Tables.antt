-- Tables as functions from ℕ, and turns and counts over the numbers below n.
use Rattle.std.specs.Prelude.{ℕ, zero, suc, Bool, true, false, ◌&&◌, List, [], ◌∷◌, Some, None, Option, ◌==◌, if◌then◌else◌}
use Rattle.swap.specs.Below.{sum_below}

-- the same table, but for one place
unfoldable pub put : {X : Type 0} → (ℕ → X) → ℕ → X → ℕ → X
put f k x q = if q == k then x else f q

-- how many numbers below n pass
unfoldable pub count_below : ℕ → (ℕ → Bool) → ℕ
count_below n f = sum_below n (λ k. if f k then 1 else 0)

-- x, changed by 0, then by 1, .. , last by n - 1
unfoldable pub each : {X : Type 0} → ℕ → (ℕ → X → X) → X → X
each zero f x = x
each (suc n) f x = f n (each n f x)

abbrev pub or_else : {X : Type 0} → Option X → Option X → Option X
or_else (Some x) o = Some x
or_else None o = o

-- what the lowest number below n has that has something
unfoldable pub lowest : {X : Type 0} → ℕ → (ℕ → Option X) → Option X
lowest zero f = None
lowest (suc n) f = or_else (lowest n f) (f n)

abbrev pub same_list : List ℕ → List ℕ → Bool
same_list [] [] = true
same_list [] (y ∷ ys) = false
same_list (x ∷ xs) [] = false
same_list (x ∷ xs) (y ∷ ys) = x == y && same_list xs ys

abbrev pub same_bool : Bool → Bool → Bool
same_bool true b = b
same_bool false true = false
same_bool false false = true
