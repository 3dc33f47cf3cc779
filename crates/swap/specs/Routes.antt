-- Routes are lists of parties. Everything here is said over any relation Pays: Pays x y says that x pays a leg to y.
use Rattle.std.specs.Prelude.{◌≡◌, ℕ, ◌<◌, ◌≤◌, Bool, true, false, not, ◌&&◌, ◌||◌, List, [], ◌∷◌, length, Some, None, Option, ◌==◌, nat_le, if◌then◌else◌, IsTrue, IsFalse}
use Rattle.std.specs.List.{All}
use Rattle.swap.specs.Limits.{max_parties}

-- is party x on the list?
abbrev pub mem : ℕ → List ℕ → Bool
mem x [] = false
mem x (y ∷ r) = x == y || mem x r

-- no party stands twice
abbrev pub distinct : List ℕ → Bool
distinct [] = true
distinct (x ∷ r) = not (mem x r) && distinct r

-- the last party of the route x ∷ r
abbrev pub last : ℕ → List ℕ → ℕ
last x [] = x
last x (y ∷ r) = last y r

-- can a list be a route? one party or more, no more than there can be, none twice
abbrev pub proper : List ℕ → Bool
proper ps = nat_le 1 (length ps) && nat_le (length ps) max_parties && distinct ps

-- a list's first party, 0 if it has none
abbrev pub first_party : List ℕ → ℕ
first_party [] = 0
first_party (x ∷ r) = x

-- a list's last party, 0 if it has none
abbrev pub last_party : List ℕ → ℕ
last_party [] = 0
last_party (x ∷ r) = last x r

-- the part of a list from a party to its end, if the party is on it
abbrev pub suffix : ℕ → List ℕ → Option (List ℕ)
suffix p [] = None
suffix p (x ∷ r) = if p == x then Some (x ∷ r) else suffix p r

-- A joined route: one party or more, none twice, each but the last pays a leg to the next.
abbrev pub Joined : (ℕ → ℕ → Type 0) → List ℕ → Type 0
Joined Pays [] = ⊥
Joined Pays (x ∷ []) = Unit {0}
Joined Pays (x ∷ (y ∷ r)) = Pays x y × IsFalse (mem x (y ∷ r)) × Joined Pays (y ∷ r)

-- x reaches y when a joined route begins with x and ends with y.
pub record Reaches (Pays : ℕ → ℕ → Type 0) (x y : ℕ) : Type 0 where
  pub by : List ℕ
  pub route : Joined Pays (x ∷ by)
  pub ends : last x by ≡ y

-- A cycle, begun at x: a joined route whose last party pays a leg to its first.
abbrev pub Cycle : (ℕ → ℕ → Type 0) → ℕ → List ℕ → Type 0
Cycle Pays x r = Joined Pays (x ∷ r) × Pays (last x r) x

-- A plan of n parties is connected when every party reaches every other.
abbrev pub Connected : (ℕ → ℕ → Type 0) → ℕ → Type 0
Connected Pays n = (x y : ℕ) → x < n → y < n → Reaches Pays x y

-- Every cycle holds a leader.
abbrev pub Led : (ℕ → ℕ → Type 0) → (ℕ → Bool) → Type 0
Led Pays leader = (x : ℕ) (r : List ℕ) → Cycle Pays x r → (p : ℕ) × IsTrue (mem p (x ∷ r)) × IsTrue (leader p)

-- The span: some joined route of parties below n has that many parties, and none has more.
pub record Span (Pays : ℕ → ℕ → Type 0) (n span : ℕ) : Type 0 where
  pub some : (r : List ℕ) × Joined Pays r × All (λ x. x < n) r × (length r ≡ span)
  pub most : (r : List ℕ) → Joined Pays r → length r ≤ span
