-- Tests over the numbers below n.
use Rattle.std.proofs.Common.{◌≡◌, ℕ, zero, suc, ◌<◌, Bool, true, false, refl, ⊎_elim, arith}
use Rattle.std.proofs.lemmas.Bool.{and_cases, both_ways, cases_Bool, true≢false}
use Rattle.std.proofs.lemmas.Bool.Decides.{Decides-below_and, Decides-below_or}
use Rattle.swap.specs.Below.{all_below, some_below}

pub all_in : (n : ℕ) (f : ℕ → Bool) → all_below n f ≡ true → (k : ℕ) → k < n → f k ≡ true
unfolding all_below
all_in n f = (Decides-below_and f (λ k. f k ≡ true) (λ m. all_below m f) (λ k. (λ e. e, λ e. e)) refl (λ _. refl) n).0

pub all_of : (n : ℕ) (f : ℕ → Bool) → ((k : ℕ) → k < n → f k ≡ true) → all_below n f ≡ true
unfolding all_below
all_of n f = (Decides-below_and f (λ k. f k ≡ true) (λ m. all_below m f) (λ k. (λ e. e, λ e. e)) refl (λ _. refl) n).1

pub some_in : (n : ℕ) (f : ℕ → Bool) → some_below n f ≡ true → (k : ℕ) × (k < n) × (f k ≡ true)
unfolding some_below
some_in n f = (Decides-below_or f (λ k. f k ≡ true) (λ m. some_below m f) (λ k. (λ e. e, λ e. e)) refl (λ _. refl) n).0

pub some_of : (n : ℕ) (f : ℕ → Bool) (k : ℕ) → k < n → f k ≡ true → some_below n f ≡ true
unfolding some_below
some_of n f k h e = (Decides-below_or f (λ k. f k ≡ true) (λ m. some_below m f) (λ k. (λ e. e, λ e. e)) refl (λ _. refl) n).1 (k, h, e)

-- a place where a test over all fails
pub all_fails : (n : ℕ) (f : ℕ → Bool) → all_below n f ≡ false → (k : ℕ) × (k < n) × (f k ≡ false)
unfolding all_below
all_fails zero f e = absurd (true≢false e)
all_fails (suc n) f e = ⊎_elim
    (λ h. (n, omega arith, h))
    (λ h. let t = all_fails n f h in (t.0, omega arith, t.2))
    (and_cases (f n) (all_below n f) e)

-- where the test holds of none
pub none_in : (n : ℕ) (f : ℕ → Bool) → some_below n f ≡ false → (k : ℕ) → k < n → f k ≡ false
none_in n f e k h = ⊎_elim (λ t. absurd (both_ways (some_below n f) e (some_of n f k h t))) (λ p. p) (cases_Bool (f k))
