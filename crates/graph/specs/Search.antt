-- What the search for routes finds: ways, head first, through parties that are still free.
use Rattle.std.specs.Prelude.{◌≡◌, ℕ, suc, ◌+◌, ◌<◌, ◌≤◌, max, ◌⊎◌, Bool, MatchBool, false, not, ◌&&◌, List, [], ◌∷◌, length, nat_lt, slice_index, slice_index_or, slice_set, if◌then◌else◌, IsTrue}
use Rattle.std.specs.List.{All}
use Rattle.swap.specs.Routes.{last, Reaches, Cycle}
use Rattle.swap.specs.Sets.{member}
use Rattle.swap.specs.Views.{leg_at}
use Rattle.swap.specs.declared.records.Leg.{Leg}

-- party z is in the set f
abbrev pub Free : List Bool → ℕ → Type 0
Free f z = IsTrue (slice_index_or f z false)

-- from x along s, each party taken from the free ones when it is come to
abbrev pub Way : (ℕ → ℕ → Type 0) → List Bool → ℕ → List ℕ → Type 0
Way P f x [] = Unit {0}
Way P f x (z ∷ s) = P x z × Free f z × Way P (slice_set f z false) z s

-- for each end, the most parties on a way from x; 0 if there is no way
pub record Row (P : ℕ → ℕ → Type 0) (f : List Bool) (x : ℕ) (t : List ℕ) : Type 0 where
  pub some : (y : ℕ) → 0 < slice_index t y → (s : List ℕ) × Way P f x s × (last x s ≡ y) × (suc (length s) ≡ slice_index t y)
  pub most : (s : List ℕ) → Way P f x s → suc (length s) ≤ slice_index t (last x s)

-- a way with one party more in front, if there is a way
abbrev pub longer : ℕ → ℕ
longer w = if nat_lt 0 w then w + 1 else 0

-- of two tables the better at each end, the second's ways with one party more
abbrev pub Merged : List ℕ → List ℕ → List ℕ → Type 0
Merged t u v = (y : ℕ) → slice_index v y ≡ max (slice_index t y) (longer (slice_index u y))

-- the n parties but for those of a set
abbrev pub Besides : ℕ → ℕ → List Bool → Type 0
Besides n out f = (z : ℕ) → slice_index_or f z false ≡ (nat_lt z n && not (member out z))

-- a cycle begun at p, of free parties
pub record Round (P : ℕ → ℕ → Type 0) (f : List Bool) (p : ℕ) : Type 0 where
  pub by : List ℕ
  pub cycle : Cycle P p by
  pub free : All (Free f) (p ∷ by)

-- x and y reach each other, or one does not reach the other
abbrev pub Linked : (ℕ → ℕ → Type 0) → ℕ → ℕ → Bool → Type 0
Linked P x y r = MatchBool r (Reaches P x y × Reaches P y x) ((Reaches P x y → ⊥) ⊎ (Reaches P y x → ⊥))

-- a leg to p from an end of the table
abbrev pub Closes : List Leg → List ℕ → ℕ → Type 0
Closes legs t p = (i : ℕ) × (i < length legs) × ((leg_at legs i).receiver ≡ p) × (0 < slice_index t (leg_at legs i).payer)

-- the largest entry of a table, 0 if it has none
pub record Top (t : List ℕ) (w : ℕ) : Type 0 where
  pub all : (k : ℕ) → slice_index t k ≤ w
  pub some : (k : ℕ) × (slice_index t k ≡ w)
