-- Sums over the numbers below n.
use Rattle.std.proofs.Common.{◌≡◌, ℕ, zero, suc, ◌+◌, ◌*◌, ◌<◌, ◌≤◌, cond, eqb, ◌⊎◌, sym, refl, ap, ◌∙◌, ⊎_elim, arith}
use Rattle.std.proofs.lemmas.Bool.{cases_eq, eq-eqb, ne_eqb, cond-true, cond-false}
use Rattle.swap.specs.Below.{sum_below}

-- where every term is 0
pub sum_zero : (n : ℕ) (f : ℕ → ℕ) → ((k : ℕ) → k < n → f k ≡ 0) → sum_below n f ≡ 0
sum_zero zero f h = refl
sum_zero (suc n) f h = let e = sum_zero n f (λ k l. h k (omega arith)) in let z = h n (omega arith) in omega arith

pub sum_le : (n : ℕ) (f g : ℕ → ℕ) → ((k : ℕ) → k < n → f k ≤ g k) → sum_below n f ≤ sum_below n g
sum_le zero f g h = omega arith
sum_le (suc n) f g h = let e = sum_le n f g (λ k l. h k (omega arith)) in let z = h n (omega arith) in omega arith

pub sum_same : (n : ℕ) (f g : ℕ → ℕ) → ((k : ℕ) → k < n → f k ≡ g k) → sum_below n f ≡ sum_below n g
sum_same zero f g h = refl
sum_same (suc n) f g h = let e = sum_same n f g (λ k l. h k (omega arith)) in let z = h n (omega arith) in omega arith

-- the first k terms
pub sum_front : (k n : ℕ) (f : ℕ → ℕ) → k ≤ n → sum_below k f ≤ sum_below n f
sum_front k zero f h = let z : k ≡ 0 = omega arith in rw z (omega arith)
sum_front k (suc n) f h =
    ⊎_elim
    (λ e. rw e (omega arith))
    (λ ne. let i = sum_front k n f (omega (arith, ne)) in omega arith)
    (cases_eq k (suc n))

-- two sums that differ in one term
pub sum_changed :
    (n : ℕ) (f g : ℕ → ℕ) (i : ℕ) → i < n → ((k : ℕ) → k < n → (k ≡ i → ⊥) → f k ≡ g k) → sum_below n f + g i ≡ sum_below n g + f i
sum_changed zero f g i h same = absurd (omega arith)
sum_changed (suc n) f g i h same =
    ⊎_elim
    (λ e.
    let s = sum_same n f g (λ k l. same k (omega arith) (λ q. omega arith)) in
    let a = ap f e in
    let b = ap g e in
    omega arith)
    (λ ne.
    let s = sum_changed n f g i (omega (arith, ne)) (λ k l. same k (omega arith)) in
    let t = same n (omega arith) (λ q. ne (sym q)) in
    omega arith)
    (cases_eq i n)

-- one term is replaced
pub sum_set : (n i v : ℕ) (f : ℕ → ℕ) → i < n → sum_below n (λ j. cond (eqb j i) v (f j)) + f i ≡ sum_below n f + v
sum_set n i v f h =
    let c =
    sum_changed n (λ j. cond (eqb j i) v (f j)) f i h (λ k l ne. cond-false (eqb k i) v (f k) (ne_eqb k i ne))
    in
    let e = cond-true (eqb i i) v (f i) (eq-eqb i i refl) in
    omega arith

-- one term is at most the sum
pub sum_term : (n : ℕ) (f : ℕ → ℕ) (k : ℕ) → k < n → f k ≤ sum_below n f
sum_term zero f k h = absurd (omega arith)
sum_term (suc n) f k h =
    ⊎_elim
    (λ e. let q = ap f e in omega arith)
    (λ ne. let i = sum_term n f k (omega (arith, ne)) in omega arith)
    (cases_eq k n)

-- no term is more, and one is less by d
pub sum_less :
    (n : ℕ) (f g : ℕ → ℕ) (i d : ℕ) → i < n → ((k : ℕ) → k < n → f k ≤ g k) → f i + d ≤ g i → sum_below n f + d ≤ sum_below n g
sum_less zero f g i d h le less = absurd (omega arith)
sum_less (suc n) f g i d h le less =
    ⊎_elim
    (λ e.
    let s = sum_le n f g (λ k l. le k (omega arith)) in
    let a = ap f e in
    let b = ap g e in
    omega arith)
    (λ ne.
    let s = sum_less n f g i d (omega (arith, ne)) (λ k l. le k (omega arith)) less in
    let t = le n (omega arith) in
    omega arith)
    (cases_eq i n)

pub sum_add : (n : ℕ) (f g : ℕ → ℕ) → sum_below n (λ k. f k + g k) ≡ sum_below n f + sum_below n g
sum_add zero f g = refl
sum_add (suc n) f g = let e = sum_add n f g in omega arith

-- rows and columns in either order
pub sum_swap : (m n : ℕ) (g : ℕ → ℕ → ℕ) → sum_below m (λ k. sum_below n (λ p. g p k)) ≡ sum_below n (λ p. sum_below m (g p))
sum_swap zero n g = sym (sum_zero n (λ p. 0) (λ p l. refl))
sum_swap (suc m) n g =
    ap (λ x. x + sum_below n (λ p. g p m)) (sum_swap m n g) ∙ sym (sum_add n (λ p. sum_below m (g p)) (λ p. g p m))

pub sum_most : (n : ℕ) (f : ℕ → ℕ) (m : ℕ) → ((k : ℕ) → k < n → f k ≤ m) → sum_below n f ≤ n * m
sum_most zero f m h = omega arith
sum_most (suc n) f m h = let e = sum_most n f m (λ k l. h k (omega arith)) in let z = h n (omega arith) in omega arith

-- where at most one term is not 0, the sum is at most the largest term
pub sum_one :
    (n : ℕ) (f : ℕ → ℕ) (m : ℕ) →
    ((k : ℕ) → k < n → f k ≤ m) → ((j k : ℕ) → j < k → k < n → (f j ≡ 0) ⊎ (f k ≡ 0)) → sum_below n f ≤ m
sum_one zero f m h a = omega arith
sum_one (suc n) f m h a =
    ⊎_elim
    (λ e. let i = sum_one n f m (λ k l. h k (omega arith)) (λ j k l q. a j k l (omega arith)) in omega arith)
    (λ ne.
    let z = sum_zero n f (λ k l. ⊎_elim (λ e. e) (λ e. absurd (ne e)) (a k n l (omega arith))) in
    let t = h n (omega arith) in
    omega arith)
    (cases_eq (f n) 0)
