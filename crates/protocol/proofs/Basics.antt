-- Tables, tests and routes.
use Rattle.std.proofs.Common.{◌≡◌, ℕ, ◌<◌, ◌≤◌, Bool, true, false, cond, eqb, List, [], ◌∷◌, refl, arith}
use Rattle.protocol.specs.Tables.{put}
use Rattle.protocol.specs.Verdicts.{first_failed}
use Rattle.std.proofs.lemmas.Bool.{eqb-true, eqb-false}

abbrev pub one_if : Bool → ℕ
one_if b = cond b 1 0

pub one_most : (b : Bool) → one_if b ≤ 1
one_most true = omega arith
one_most false = omega arith

pub put_case : {X : Type 0} (P : X → Type 0) (f : ℕ → X) (k : ℕ) (x : X) (q : ℕ) → (q ≡ k → P x) → ((q ≡ k → ⊥) → P (f q)) → P (put f k x q)
unfolding put
put_case P f k x q yes' no' = go (eqb q k) refl
  where
    go : (b : Bool) → eqb q k ≡ b → P (cond b x (f q))
    go true e = yes' (eqb-true q k e)
    go false e = no' (eqb-false q k e)

-- two tables changed at one place
pub put2_case : {X Y : Type 0} (P : X → Y → Type 0) (f : ℕ → X) (g : ℕ → Y) (k : ℕ) (x : X) (y : Y) (q : ℕ)
    → (q ≡ k → P x y) → ((q ≡ k → ⊥) → P (f q) (g q)) → P (put f k x q) (put g k y q)
unfolding put
put2_case P f g k x y q yes' no' = go (eqb q k) refl
  where
    go : (b : Bool) → eqb q k ≡ b → P (cond b x (f q)) (cond b y (g q))
    go true e = yes' (eqb-true q k e)
    go false e = no' (eqb-false q k e)

pub put_same : {X : Type 0} (f : ℕ → X) (k : ℕ) (x : X) (q : ℕ) → q ≡ k → put f k x q ≡ x
put_same f k x q e = put_case (λ y. y ≡ x) f k x q (λ _. refl) (λ n. absurd (n e))

pub put_other : {X : Type 0} (f : ℕ → X) (k : ℕ) (x : X) (q : ℕ) → (q ≡ k → ⊥) → put f k x q ≡ f q
put_other f k x q n = put_case (λ y. y ≡ f q) f k x q (λ e. absurd (n e)) (λ _. refl)

-- none of the tests holds
abbrev pub Fails : List (Bool × ℕ) → Type 0
Fails [] = Unit {0}
Fails (x ∷ xs) = (x.0 ≡ false) × Fails xs

-- what each test tells is a number from 1 to 254
abbrev pub Numbered : List (Bool × ℕ) → Type 0
Numbered [] = Unit {0}
Numbered (x ∷ xs) = (0 < x.1) × (x.1 < 255) × Numbered xs

-- nothing is told: every test fails
pub took : (xs : List (Bool × ℕ)) → Numbered xs → first_failed xs ≡ 0 → Fails xs
unfolding first_failed
took [] h e = tt
took (x ∷ xs) h e = grind (arith, took xs h.2)

pub passes : (xs : List (Bool × ℕ)) → Fails xs → first_failed xs ≡ 0
unfolding first_failed
passes [] h = refl
passes (x ∷ xs) h = rw h.0 (passes xs h.1)

pub below : (xs : List (Bool × ℕ)) → Numbered xs → first_failed xs < 255
unfolding first_failed
below [] h = omega arith
below (x ∷ xs) h = grind (arith, below xs h.2)
