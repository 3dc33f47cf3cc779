-- Counts kept in two lists: none at all, and all together.
use Rattle.std.proofs.Common.{◌≡◌, ℕ, zero, suc, ◌+◌, ◌≤◌, List, length, get_or, take, replicate, sum, refl, ap, ◌∙◌, ◌<◌, arith, true, ltb, Ok}
use Rattle.coins.specs.Coins.{held}
use Rattle.ledgers.specs.Stocks.{IsEmpty, total, coin_rules}
use Rattle.std.proofs.lemmas.List.{take_all}
use Rattle.std.proofs.lemmas.List.Sums.{sum_by_more}
use Rattle.std.proofs.lemmas.Bool.Decides.{nat_tests}
use Rattle.swap.specs.Limits.{max_legs, max_parties, coin_ceiling}
use Rattle.swap.specs.Below.{sum_below}
use Rattle.swap.specs.declared.records.Holder.TheVariants.{Party, Escrow}
use Rattle.ledgers.specs.Calls.{credit_verdict, refuse}
use Rattle.ledgers.specs.declared.refusals.Refusal.TheVariants.{OverCeiling}
use Rattle.std.proofs.lemmas.Bool.{and_from, cond-false, lt-ltb, not_from_true}
use Rattle.swap.specs.Assets.{coin_asset}

zeros : (n i : ℕ) → ◌≡◌ {A = ℕ} (get_or (replicate n 0) i 0) 0
zeros zero i = refl
zeros (suc n) zero = refl
zeros (suc n) (suc i) = zeros n i

pub nothing : (n m : ℕ) → IsEmpty (held (replicate n 0) (replicate m 0))
nothing n m (Party p) u = let none = zeros n p in grind (arith, nat_tests)
nothing n m (Escrow a) u = let none = zeros m a in grind (arith, nat_tests)

-- ---- sums
sum_front : (n : ℕ) (xs : List ℕ) → n ≤ length xs → sum_below n (λ i. get_or xs i 0) ≡ sum (take n xs)
sum_front zero xs le = refl
sum_front (suc n) xs le =
    let below = sum_front n xs (omega arith) in
    let more = sum_by_more (λ x. x) xs n 0 (omega arith) in
    let next : n + 1 ≡ suc n = omega arith in
    let same = ap (λ j. sum (take j xs)) next in
    omega arith

sum_list : (n : ℕ) (xs : List ℕ) → length xs ≡ n → sum_below n (λ i. get_or xs i 0) ≡ sum xs
sum_list n xs e = sum_front n xs (omega arith) ∙ ap sum (take_all n xs (omega arith))

pub total_held : (ps xs : List ℕ) → length ps ≡ max_parties → length xs ≡ max_legs → total (held ps xs) 0 ≡ sum ps + sum xs
total_held ps xs parties accounts =
    let ps_sum = sum_list max_parties ps parties in
    let xs_sum = sum_list max_legs xs accounts in
    omega arith

module _ (ps xs : List ℕ) (parties : length ps ≡ max_parties) (accounts : length xs ≡ max_legs) where
  -- what credit answers once its numbers are in range
  pub credit_told : (party asset : ℕ) → party < max_parties → coin_asset asset ≡ true
      → credit_verdict coin_rules party asset (held ps xs) ≡ refuse (ltb coin_ceiling (sum ps + sum xs + asset)) OverCeiling (Ok tt)
  credit_told party asset p ok =
      cond-false _ _ _ (not_from_true _ (and_from _ _ (lt-ltb party max_parties p) ok))
      ∙ ap (λ (t : ℕ). refuse (ltb coin_ceiling (t + asset)) OverCeiling (Ok tt)) (total_held ps xs parties accounts)
