-- An array made from a function of the place.
use Rattle.std.proofs.Common.{◌≡◌, ℕ, zero, suc, ◌+◌, ◌<◌, ◌≤◌, List, get_or, sym, ◌∙◌, subst, ⊎_elim, arith}
use Rattle.std.proofs.lemmas.Bool.{cases_eq}
use Rattle.std.specs.Array.{IsFromFnResultFrom}
use Rattle.std.specs.Fn.{Called}
use denote.Param.Members.{Mut}

module _ {F B : Type 0} (g : Mut F (ℕ × Unit {0}) B) (h : ℕ → B) (f : F) (ys : List B)
    (gives : (i : ℕ) (y : B) (q : F) → Called g f (i, tt) y q → (q ≡ f) × (y ≡ h i)) where
  pub made_at : (n i k : ℕ) (d : B) → IsFromFnResultFrom g f ys i n → i ≤ k → k < i + n → get_or ys k d ≡ h k
  made_at zero i k d m l u = absurd (omega arith)
  made_at (suc n) i k d m l u =
      let q = gives i m.1 m.0 m.3 in
      ⊎_elim
      (λ e. subst (λ j. get_or ys j d ≡ h j) (sym e) (m.2.1 d ∙ q.1))
      (λ e. made_at n (i + 1) k d (subst (λ p. IsFromFnResultFrom g p ys (i + 1) n) q.0 m.4) (omega (arith, e)) (omega arith))
      (cases_eq k i)
