-- The search, leg by leg: after i legs the table is right for the ways that begin with one of these.
use Rattle.std.proofs.Common.{◌≡◌, ℕ, zero, suc, ◌+◌, ◌<◌, ◌≤◌, max, Bool, false, ltb, ◌⊎◌, List, [], ◌∷◌, length, get_or, set, sym, refl, ap, ◌∙◌, subst, inl, inr, ⊎_elim, arith}
use Rattle.graph.proofs.Sizes.{size_le}
use Rattle.graph.proofs.Ways.{way_size}
use Rattle.graph.specs.Graphs.{leg_at, Pays}
use Rattle.graph.specs.Search.{Free, Way, Row, longer, Merged}
use Rattle.std.proofs.lemmas.Bool.{cases_eq, cases_lt, cond-true, lt-ltb}
use Rattle.swap.specs.Routes.{last}
use Rattle.swap.specs.declared.records.Leg.{Leg}

pub record Begun (legs : List Leg) (f : List Bool) (x i : ℕ) (t : List ℕ) : Type 0 where
  pub some : (y : ℕ) → 0 < get_or t y 0 → (s : List ℕ) × Way (Pays legs) f x s × (last x s ≡ y) × (suc (length s) ≡ get_or t y 0)
  pub here : 1 ≤ get_or t x 0
  pub most : (j z : ℕ) (s : List ℕ) → j < i → (leg_at legs j).payer ≡ x → (leg_at legs j).receiver ≡ z → Free f z → Way (Pays legs) (set f z false) z s
      → suc (suc (length s)) ≤ get_or t (last z s) 0

-- every entry of a row is at most one more than the free parties
pub row_bound : (P : ℕ → ℕ → Type 0) (f : List Bool) (x : ℕ) (t : List ℕ) → Row P f x t → (y : ℕ) → get_or t y 0 ≤ suc (length f)
row_bound P f x t r y = go (get_or t y 0) refl
  where
    go : (w : ℕ) → get_or t y 0 ≡ w → get_or t y 0 ≤ suc (length f)
    go zero e = omega arith
    go (suc w) e =
        let s = r.some y (omega arith) in
        let h = way_size P f x s.0 s.1 in
        let k = size_le f in
        let l = s.3 in
        omega arith

pub max_some : (a b : ℕ) → (max a b ≡ a) ⊎ (max a b ≡ b)
max_some a b = ⊎_elim (λ h. inr (omega arith)) (λ h. inl (omega arith)) (cases_lt a b)

longer_some : (w : ℕ) → 0 < w → longer w ≡ suc w
longer_some w h = cond-true (ltb 0 w) (w + 1) 0 (lt-ltb 0 w h) ∙ omega arith

longer_pos : (w : ℕ) → 0 < longer w → 0 < w
longer_pos zero h = absurd (omega arith)
longer_pos (suc w) h = omega arith

module _ (legs : List Leg) (f : List Bool) (x : ℕ) where
  module _ (i : ℕ) (t : List ℕ) (b : Begun legs f x i t) where
    -- a leg that goes nowhere from x
    pub passed : ((leg_at legs i).payer ≡ x → Free f (leg_at legs i).receiver → ⊥) → Begun legs f x (i + 1) t
    passed n = record {
      some = b.some;
      here = b.here;
      most = λ j z s lt p r fr w. ⊎_elim
          (λ e. absurd (n (subst (λ k. (leg_at legs k).payer ≡ x) e p) (subst (Free f) (sym r ∙ ap (λ k. (leg_at legs k).receiver) e) fr)))
          (λ d. b.most j z s (omega (arith, d)) p r fr w)
          (cases_eq j i);
    }

    -- a leg to a free party, and the table from there
    pub went : i < length legs → (z : ℕ) → (leg_at legs i).payer ≡ x → (leg_at legs i).receiver ≡ z → Free f z
        → (u v : List ℕ) → Row (Pays legs) (set f z false) z u → Merged t u v → Begun legs f x (i + 1) v
    went l z p q fr u v r m = record {
      some = λ y h. ⊎_elim
          (λ e. let s = b.some y (omega (arith, m y)) in (s.0, s.1, s.2, s.3 ∙ sym (m y ∙ e)))
          (λ e.
          let k : 0 < longer (get_or u y 0) = omega (arith, m y) in
          let s = r.some y (longer_pos (get_or u y 0) k) in
          (z ∷ s.0, ((i, l, p, q), fr, s.1), s.2, ap suc s.3 ∙ sym (m y ∙ e ∙ longer_some (get_or u y 0) (longer_pos (get_or u y 0) k))))
          (max_some (get_or t y 0) (longer (get_or u y 0)));
      here = let h = b.here in let e = m x in omega arith;
      most = λ j y s lt p' q' fr' w. ⊎_elim
          (λ e.
          let same : z ≡ y = sym q ∙ ap (λ k. (leg_at legs k).receiver) (sym e) ∙ q' in
          let g = r.most s (subst (λ k. Way (Pays legs) (set f k false) k s) (sym same) w) in
          let g' : suc (length s) ≤ get_or u (last y s) 0 = subst (λ k. suc (length s) ≤ get_or u (last k s) 0) same g in
          let o = longer_some (get_or u (last y s) 0) (omega arith) in
          let e' = m (last y s) in
          omega arith)
          (λ d. let h = b.most j y s (omega (arith, d)) p' q' fr' w in let e = m (last y s) in omega arith)
          (cases_eq j i);
    }

  pub ended : (t : List ℕ) → Begun legs f x (length legs) t → Row (Pays legs) f x t
  ended t b = record { some = b.some; most = every }
    where
      every : (s : List ℕ) → Way (Pays legs) f x s → suc (length s) ≤ get_or t (last x s) 0
      every [] w = b.here
      every (z ∷ s) w = b.most w.0.0 z s w.0.1 w.0.2 w.0.3 w.1 w.2
