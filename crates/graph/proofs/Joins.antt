-- Joined routes over any relation: what holds of their parties, one relation for another, two routes end to end, and cycles turned.
use Rattle.std.proofs.Common.{◌≡◌, ℕ, true, false, eqb, List, [], ◌∷◌, ◌++◌, sym, refl, ◌∙◌, subst, ⊎_elim, append_assoc, append-nil}
use Rattle.std.proofs.lemmas.List.Elements.{All-cons, All-head, All-tail, All-push}
use Rattle.std.proofs.lemmas.Bool.{both_ways, cases_Bool, eqb-true, eqb-false, ne_eqb, or_parts, or_from, or_cases}
use Rattle.std.specs.List.{All}
use Rattle.swap.specs.Routes.{mem, last, Joined, Reaches, Cycle}

pub all_mem : (Q : ℕ → Type 0) (p : ℕ) (s : List ℕ) → All Q s → mem p s ≡ true → Q p
all_mem Q p [] a m = absurd (both_ways false refl m)
all_mem Q p (x ∷ s) a m =
    ⊎_elim
    (λ e. subst Q (sym (eqb-true p x e)) (All-head Q x s a))
    (λ e. all_mem Q p s (All-tail Q x s a) e)
    (or_cases (eqb p x) (mem p s) m)

mem_push : (y x : ℕ) (s : List ℕ) → mem y s ≡ false → (y ≡ x → ⊥) → mem y (s ++ x ∷ []) ≡ false
mem_push y x [] m n = or_from (eqb y x) false (ne_eqb y x n) refl
mem_push y x (z ∷ s) m n =
    let p = or_parts (eqb y z) (mem y s) m in
    or_from (eqb y z) (mem y (s ++ x ∷ [])) p.0 (mem_push y x s p.1 n)

last_push : (y x : ℕ) (s : List ℕ) → last y (s ++ x ∷ []) ≡ x
last_push y x [] = refl
last_push y x (z ∷ s) = last_push z x s

-- one relation for another
module _ (P Q : ℕ → ℕ → Type 0) (to : (x y : ℕ) → P x y → Q x y) where
  pub joined_map : (r : List ℕ) → Joined P r → Joined Q r
  joined_map [] j = j
  joined_map (x ∷ []) j = tt
  joined_map (x ∷ (y ∷ r)) j = (to x y j.0, j.1, joined_map (y ∷ r) j.2)

  pub reaches_map : (x y : ℕ) → Reaches P x y → Reaches Q x y
  reaches_map x y r = record { by = r.by; route = joined_map (x ∷ r.by) r.route; ends = r.ends }

  pub cycle_map : (x : ℕ) (r : List ℕ) → Cycle P x r → Cycle Q x r
  cycle_map x r c = (joined_map (x ∷ r) c.0, to (last x r) x c.1)

module _ (P : ℕ → ℕ → Type 0) where
  -- the part of a route from one of its parties on
  cut : (x y : ℕ) (s : List ℕ) → Joined P (y ∷ s) → mem x (y ∷ s) ≡ true → (t : List ℕ) × Joined P (x ∷ t) × (last x t ≡ last y s)
  cut x y [] j m =
      ⊎_elim (λ e. ([], tt, eqb-true x y e)) (λ e. absurd (both_ways false refl e)) (or_cases (eqb x y) false m)
  cut x y (z ∷ s) j m =
      ⊎_elim
      (λ e. let k = eqb-true x y e in (z ∷ s, subst (λ q. Joined P (q ∷ (z ∷ s))) (sym k) j, refl))
      (λ e. cut x z s j.2 e)
      (or_cases (eqb x y) (mem x (z ∷ s)) m)

  ahead : (x y z : ℕ) → P x y → Reaches P y z → Reaches P x z
  ahead x y z p r =
      ⊎_elim
      (λ m. let c = cut x y r.by r.route m in record { by = c.0; route = c.1; ends = c.2 ∙ r.ends })
      (λ m. record { by = y ∷ r.by; route = (p, m, r.route); ends = r.ends })
      (cases_Bool (mem x (y ∷ r.by)))

  joins : (x : ℕ) (s : List ℕ) (z : ℕ) → Joined P (x ∷ s) → Reaches P (last x s) z → Reaches P x z
  joins x [] z j r = r
  joins x (y ∷ s) z j r = ahead x y z j.0 (joins y s z j.2 r)

  -- two routes end to end hold a route
  pub reaches_on : (x y z : ℕ) → Reaches P x y → Reaches P y z → Reaches P x z
  reaches_on x y z a b = joins x a.by z a.route (subst (λ q. Reaches P q z) (sym a.ends) b)

  joined_push : (y x : ℕ) (s : List ℕ) → Joined P (y ∷ s) → P (last y s) x → mem x (y ∷ s) ≡ false → Joined P (y ∷ (s ++ x ∷ []))
  joined_push y x [] j p m = (p, or_from (eqb y x) false (ne_eqb y x (λ e. eqb-false x y (or_parts (eqb x y) false m).0 (sym e))) refl, tt)
  joined_push y x (z ∷ s) j p m =
      let k = or_parts (eqb x y) (mem x (z ∷ s)) m in
      (j.0, mem_push y x (z ∷ s) j.1 (λ e. eqb-false x y k.0 (sym e)), joined_push z x s j.2 p k.1)

  -- a cycle begun one party later
  turned : (x y : ℕ) (s : List ℕ) → Cycle P x (y ∷ s) → Cycle P y (s ++ x ∷ [])
  turned x y s c = (joined_push y x s c.0.2 c.1 c.0.1, subst (λ q. P q y) (sym (last_push y x s)) c.0.0)

  -- a cycle begun with any of its parties
  turn : (Q : ℕ → Type 0) (p x : ℕ) (s t : List ℕ) → Cycle P x (s ++ t) → All Q (x ∷ (s ++ t)) → mem p (x ∷ s) ≡ true
      → (r : List ℕ) × Cycle P p r × All Q (p ∷ r)
  turn Q p x [] t c a m =
      let e : x ≡ p = ⊎_elim (λ e. sym (eqb-true p x e)) (λ e. absurd (both_ways false refl e)) (or_cases (eqb p x) false m) in
      (t, subst (λ q. Cycle P q t) e c, subst (λ q. All Q (q ∷ t)) e a)
  turn Q p x (y ∷ s) t c a m =
      let next : (s ++ t) ++ x ∷ [] ≡ s ++ (t ++ x ∷ []) = append_assoc s t (x ∷ []) in
      let rest = All-tail Q x (y ∷ (s ++ t)) a in
      ⊎_elim
      (λ e.
      let k = sym (eqb-true p x e) in
      (y ∷ (s ++ t), subst (λ q. Cycle P q (y ∷ (s ++ t))) k c, subst (λ q. All Q (q ∷ (y ∷ (s ++ t)))) k a))
      (λ e. turn Q p y s (t ++ x ∷ [])
      (subst (Cycle P y) next (turned x y (s ++ t) c))
      (All-cons Q y (s ++ (t ++ x ∷ [])) (All-head Q y (s ++ t) rest)
      (subst (All Q) next (All-push Q (s ++ t) x (All-tail Q y (s ++ t) rest) (All-head Q x (y ∷ (s ++ t)) a)))) e)
      (or_cases (eqb p x) (mem p (y ∷ s)) m)

  pub begun_at : (Q : ℕ → Type 0) (p x : ℕ) (s : List ℕ) → Cycle P x s → All Q (x ∷ s) → mem p (x ∷ s) ≡ true
      → (r : List ℕ) × Cycle P p r × All Q (p ∷ r)
  begun_at Q p x s c a m =
      let e : s ≡ s ++ [] = sym (append-nil s) in
      turn Q p x s [] (subst (Cycle P x) e c) (subst (λ r. All Q (x ∷ r)) e a) m
