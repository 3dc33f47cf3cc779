-- Who pays whom in a list of legs, and what is said of it by joined routes.
use Rattle.std.specs.Prelude.{◌≡◌, ℕ, ◌<◌, ◌≤◌, min, ◌⊎◌, List, ◌∷◌, length, Option, MatchOption, slice_index, IsTrue, IsFalse}
use Rattle.std.specs.List.{All}
use Rattle.swap.specs.Limits.{max_parties}
use Rattle.swap.specs.Routes.{mem, last, Joined, Reaches, Cycle, Span}
use Rattle.swap.specs.Sets.{member}
pub use Rattle.swap.specs.Routes.{Connected, Led}
pub use Rattle.swap.specs.Views.{leg_at}
use Rattle.swap.specs.declared.records.Leg.{Leg}

-- x pays a leg to y
abbrev pub Pays : List Leg → ℕ → ℕ → Type 0
Pays legs x y = (i : ℕ) × (i < length legs) × ((leg_at legs i).payer ≡ x) × ((leg_at legs i).receiver ≡ y)

-- how many parties there are: no more than the limit
abbrev pub count : ℕ → ℕ
count parties = min parties max_parties

-- x pays a leg to y, and both are among the n parties
abbrev pub Among : ℕ → List Leg → ℕ → ℕ → Type 0
Among n legs x y = Pays legs x y × (x < n) × (y < n)

-- Of the joined routes from x to y, the longest has w parties; w is 0 if there is none.
pub record Longest (P : ℕ → ℕ → Type 0) (x y w : ℕ) : Type 0 where
  pub some : 0 < w → (r : List ℕ) × Joined P (x ∷ r) × (last x r ≡ y) × (length (x ∷ r) ≡ w)
  pub most : (r : List ℕ) → Joined P (x ∷ r) → last x r ≡ y → length (x ∷ r) ≤ w

-- A table of these from x, for each of n parties; 0 wherever x or the end is none of them.
pub record Table (P : ℕ → ℕ → Type 0) (n x : ℕ) (t : List ℕ) : Type 0 where
  pub inside : x < n → (y : ℕ) → y < n → Longest P x y (slice_index t y)
  pub outside : (y : ℕ) → 0 < slice_index t y → (x < n) × (y < n)

-- The span of n parties; without parties it is 0.
pub record Spanned (P : ℕ → ℕ → Type 0) (n w : ℕ) : Type 0 where
  pub some : 1 ≤ n → Span P n w
  pub none : n ≡ 0 → w ≡ 0

-- Party p is the lowest that party 0 does not reach or that does not reach party 0.
pub record CutOff (P : ℕ → ℕ → Type 0) (n p : ℕ) : Type 0 where
  pub exists : p < n
  pub apart : (Reaches P 0 p → ⊥) ⊎ (Reaches P p 0 → ⊥)
  pub lowest : (q : ℕ) → q < p → Reaches P 0 q × Reaches P q 0

-- Party p is on a cycle that holds no leader.
pub record Leaderless (P : ℕ → ℕ → Type 0) (leaders p : ℕ) : Type 0 where
  pub from : ℕ
  pub by : List ℕ
  pub cycle : Cycle P from by
  pub on : IsTrue (mem p (from ∷ by))
  pub none : All (λ q. IsFalse (member leaders q)) (from ∷ by)

-- Party p is the lowest on a cycle that holds no leader.
pub record Unled (P : ℕ → ℕ → Type 0) (n leaders p : ℕ) : Type 0 where
  pub exists : p < n
  pub cycle : Leaderless P leaders p
  pub lowest : (q : ℕ) → q < p → Leaderless P leaders q → ⊥

-- what is said of connection, and of cycles: nobody is named if all is well, else the lowest party
abbrev pub Connects : (ℕ → ℕ → Type 0) → ℕ → Option ℕ → Type 0
Connects P n r = MatchOption r (Connected P n) (CutOff P n)

abbrev pub Leads : (ℕ → ℕ → Type 0) → ℕ → ℕ → Option ℕ → Type 0
Leads P n leaders r = MatchOption r (Led P (member leaders)) (Unled P n leaders)

-- every leg is between two of the n parties
abbrev pub Inside : ℕ → List Leg → Type 0
Inside n legs = (i : ℕ) → i < length legs → ((leg_at legs i).payer < n) × ((leg_at legs i).receiver < n)
