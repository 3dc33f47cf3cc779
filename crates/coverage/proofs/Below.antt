-- The sum of a list's first elements, and a test of some of them, by their places.
use Rattle.std.proofs.Common.{◌≡◌, ℕ, zero, suc, ◌+◌, ◌≤◌, ◌||◌, Bool, List, length, take, sum_by, slice_index_or, sym, refl, ap, ◌∙◌, add-one, le_refl, arith}
use Rattle.std.specs.List.{list_any}
use Rattle.std.proofs.Math.Bool.{or_comm}
use Rattle.std.proofs.Math.Seq.{take-length}
use Rattle.std.proofs.lemmas.List.{take_more}
use Rattle.std.proofs.lemmas.List.Sums.{sum_by_push}
use Rattle.std.proofs.lemmas.List.Folds.{list_any_more}
use Rattle.swap.specs.Below.{sum_below, some_below}

module _ {X : Type 0} (d : X) (xs : List X) where
  pub sum_front : (f : X → ℕ) (n : ℕ) → n ≤ length xs → sum_by f (take n xs) ≡ sum_below n (λ k. f (slice_index_or xs k d))
  sum_front f zero h = refl
  sum_front f (suc n) h =
      sym (ap (λ m. sum_by f (take m xs)) (add-one n)) ∙ ap (sum_by f) (take_more xs n d (omega arith)) ∙ sum_by_push f (take n xs) (slice_index_or xs n d)
      ∙ ap (λ m. m + f (slice_index_or xs n d)) (sum_front f n (omega arith))

  pub some_front : (p : X → Bool) (n : ℕ) → n ≤ length xs → list_any p (take n xs) ≡ some_below n (λ k. p (slice_index_or xs k d))
  unfolding some_below
  some_front p zero h = refl
  some_front p (suc n) h =
      sym (ap (λ m. list_any p (take m xs)) (add-one n)) ∙ list_any_more p xs n d (omega arith)
      ∙ ap (λ b. b || p (slice_index_or xs n d)) (some_front p n (omega arith)) ∙ or_comm (some_below n (λ k. p (slice_index_or xs k d))) _

  pub sum_all : (f : X → ℕ) → sum_by f xs ≡ sum_below (length xs) (λ k. f (slice_index_or xs k d))
  sum_all f = ap (sum_by f) (sym (take-length xs)) ∙ sum_front f (length xs) (le_refl _)

  pub some_all : (p : X → Bool) → list_any p xs ≡ some_below (length xs) (λ k. p (slice_index_or xs k d))
  some_all p = ap (list_any p) (sym (take-length xs)) ∙ some_front p (length xs) (le_refl _)
