-- Sums over tables.
use Rattle.std.proofs.Common.{◌≡◌, ℕ, ◌+◌, ◌<◌, refl, ap, arith}
use Rattle.protocol.proofs.Basics.{put_same, put_other}
use Rattle.protocol.specs.Tables.{put}
use Rattle.swap.proofs.Sums.{sum_changed}
use Rattle.swap.specs.Below.{sum_below}

-- a sum over a table, of which one place changes
pub sum_put :
    {X : Type 0} (n : ℕ) (T : ℕ → X → ℕ) (f : ℕ → X) (i : ℕ) (x : X) →
    i < n → sum_below n (λ k. T k (put f i x k)) + T i (f i) ≡ sum_below n (λ k. T k (f k)) + T i x
sum_put n T f i x h =
    let c =
    sum_changed n (λ k. T k (put f i x k)) (λ k. T k (f k)) i h (λ k l ne. ap (T k) (put_other f i x k ne))
    in
    let e = ap (T i) (put_same f i x i refl) in
    omega arith
