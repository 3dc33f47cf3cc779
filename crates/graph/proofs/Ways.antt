-- Ways through free parties are joined routes, and the other way round.
use Rattle.std.proofs.Common.{◌≡◌, ℕ, ◌≤◌, Bool, false, List, [], ◌∷◌, length, set, refl, arith}
use Rattle.graph.proofs.Sizes.{size, size_set, taken, free_before, free_after, not_on}
use Rattle.graph.specs.Search.{Free, Way}
use Rattle.std.proofs.lemmas.List.Elements.{All-nil, All-cons, All-head, All-tail, All-weaker}
use Rattle.std.specs.List.{All}
use Rattle.swap.specs.Routes.{mem, Joined}

module _ (P : ℕ → ℕ → Type 0) where
  pub way_free : (f : List Bool) (x : ℕ) (s : List ℕ) → Way P f x s → All (Free f) s
  way_free f x [] w = All-nil (Free f)
  way_free f x (z ∷ s) w =
      All-cons (Free f) z s w.1 (All-weaker (Free (set f z false)) (Free f) (free_before f z) s (way_free (set f z false) z s w.2))

  -- no way is longer than the parties that are free
  pub way_size : (f : List Bool) (x : ℕ) (s : List ℕ) → Way P f x s → length s ≤ size f
  way_size f x [] w = omega arith
  way_size f x (z ∷ s) w =
      let h = way_size (set f z false) z s w.2 in
      let e = size_set f z w.1 in
      omega arith

  way_joined : (f : List Bool) (x : ℕ) (s : List ℕ) → (Free f x → ⊥) → Way P f x s → Joined P (x ∷ s)
  way_joined f x [] n w = tt
  way_joined f x (z ∷ s) n w =
      (w.0, not_on f x (z ∷ s) n (way_free f x (z ∷ s) w), way_joined (set f z false) z s (taken f z) w.2)

  pub joined_apart : (x : ℕ) (s : List ℕ) → Joined P (x ∷ s) → mem x s ≡ false
  joined_apart x [] j = refl
  joined_apart x (z ∷ s) j = j.1

  joined_way : (f : List Bool) (x : ℕ) (s : List ℕ) → Joined P (x ∷ s) → All (Free f) s → Way P f x s
  joined_way f x [] j a = tt
  joined_way f x (z ∷ s) j a =
      let rest = free_after f z s (joined_apart z s j.2) (All-tail (Free f) z s a) in
      (j.0, All-head (Free f) z s a, joined_way (set f z false) z s j.2 rest)

  -- x itself taken out
  pub route_way : (f : List Bool) (x : ℕ) (s : List ℕ) → Joined P (x ∷ s) → All (Free f) s → Way P (set f x false) x s
  route_way f x s j a = joined_way (set f x false) x s j (free_after f x s (joined_apart x s j) a)

  pub way_route : (f : List Bool) (x : ℕ) (s : List ℕ) → Way P (set f x false) x s → Joined P (x ∷ s)
  way_route f x s w = way_joined (set f x false) x s (taken f x) w

  pub way_within : (f : List Bool) (x : ℕ) (s : List ℕ) → Way P (set f x false) x s → All (Free f) s
  way_within f x s w = All-weaker (Free (set f x false)) (Free f) (free_before f x) s (way_free (set f x false) x s w)
