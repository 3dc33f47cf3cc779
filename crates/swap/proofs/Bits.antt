-- Sets of parties as bits.
use Rattle.std.proofs.Common.{◌≡◌, ℕ, suc, ◌+◌, ◌-◌, ◌*◌, ◌/◌, ◌%◌, ◌^◌, ◌<◌, ◌≤◌, Bool, true, false, eqb, sym, refl, ap, ◌∙◌, ⊎_elim, pow-suc, arith, pow_mono}
use native.Mathlib.Nat.{div-eq_of_lt, zero-div}
use Rattle.std.proofs.lemmas.Nat.{pow_pos, shr-shr, leading_top, le-div, div_below, shr_le}
use Rattle.std.proofs.lemmas.Bool.{both_ways, cases_lt, eqb-true, eqb-false}
use Rattle.swap.specs.Sets.{member, Exactly}

-- what is shifted out to nothing has no member at or above the shift
pub out : (set n p : ℕ) → set / 2 ^ n ≡ 0 → n ≤ p → set / 2 ^ p ≡ 0
out set n p e h =
    let j : ℕ = p - n in
    let k : n + j ≡ p = omega arith in
    ap (λ q. set / 2 ^ q) (sym k) ∙ sym (shr-shr set n j) ∙ ap (λ x. x / 2 ^ j) e ∙ zero-div (2 ^ j)

pub none : (set p : ℕ) → set / 2 ^ p ≡ 0 → member set p ≡ false
none set p e = ap (λ x. eqb (x % 2) 1) e

pub short : (set p : ℕ) → set < 2 ^ 16 → 16 ≤ p → set / 2 ^ p ≡ 0
short set p f h = let le : 2 ^ 16 ≤ 2 ^ p = pow_mono h in div-eq_of_lt (omega arith)

pub within : (set n : ℕ) → set / 2 ^ n ≡ 0 → (p : ℕ) → member set p ≡ true → p < n
within set n e p m =
    ⊎_elim (λ h. h) (λ h. absurd (both_ways (member set p) (none set p (out set n p e h)) m)) (cases_lt p n)

-- a number that is not 0 has a highest bit
pub top : (a : ℕ) → 0 < a → a < 2 ^ 16 → (j : ℕ) × (a / 2 ^ j ≡ 1)
top a pos f =
    let t = leading_top 16 a pos f in
    let s : 2 ^ suc t.0 ≡ 2 ^ t.0 * 2 = pow-suc _ _ in
    let low : 1 ≤ a / 2 ^ t.0 = le-div 1 a (2 ^ t.0) (pow_pos t.0) (omega arith) in
    let high : a / 2 ^ t.0 < 2 = div_below a (2 ^ t.0) 2 (pow_pos t.0) (omega arith) in
    (t.0, omega arith)

pub outside : (set n : ℕ) → set < 2 ^ 16 → (set / 2 ^ n ≡ 0 → ⊥) → ((p : ℕ) → member set p ≡ true → p < n) → ⊥
outside set n f ne all =
    let q : set / 2 ^ n ≤ set = shr_le set n in
    let t = top (set / 2 ^ n) (omega (arith, ne)) (omega arith) in
    let h : set / 2 ^ (n + t.0) ≡ 1 = sym (shr-shr set n t.0) ∙ t.1 in
    let l = all (n + t.0) (ap (λ x. eqb (x % 2) 1) h) in
    omega arith

pub tells : (set n : ℕ) → set < 2 ^ 16 → Exactly (eqb (set / 2 ^ n) 0) ((p : ℕ) → member set p ≡ true → p < n)
tells set n f = go (eqb (set / 2 ^ n) 0) refl
  where
    go : (b : Bool) → eqb (set / 2 ^ n) 0 ≡ b → Exactly b ((p : ℕ) → member set p ≡ true → p < n)
    go true e = within set n (eqb-true _ _ e)
    go false e = outside set n f (eqb-false _ _ e)
