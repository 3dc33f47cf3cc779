-- Routes of parties that are no leaders.
use Rattle.std.proofs.Common.{◌≡◌, ℕ, suc, ◌+◌, ◌<◌, ◌≤◌, true, false, eqb, List, [], ◌∷◌, length, sym, refl, subst, ⊎_elim, arith}
use Rattle.protocol.proofs.Standing.{clash}
use Rattle.std.proofs.lemmas.Bool.{eqb-true, eq-eqb, cases_eq, or_cases, or_left, or_right, cases_Bool}
use Rattle.swap.specs.Routes.{mem, last, Joined}
use Rattle.swap.specs.Swaps.{Swap, Sound, Pays}

pub last_mem : (x : ℕ) (r : List ℕ) → mem (last x r) (x ∷ r) ≡ true
last_mem x [] = or_left (eqb x x) false (eq-eqb x x refl)
last_mem x (y ∷ r) = or_right (eqb (last y r) x) (mem (last y r) (y ∷ r)) (last_mem y r)

pub mem_one : (w x : ℕ) → mem w (x ∷ []) ≡ true → w ≡ x
mem_one w x m = ⊎_elim (λ e. eqb-true w x e) (λ f. grind arith) (or_cases (eqb w x) false m)

module _ (R : ℕ → ℕ → Type 0) where
  -- the part of a joined route up to one of its parties
  abbrev pub Front : ℕ → ℕ → List ℕ → Type 0
  Front u x r = (q : List ℕ) × Joined R (x ∷ q) × (last x q ≡ u) × ((w : ℕ) → mem w (x ∷ q) ≡ true → mem w (x ∷ r) ≡ true)

  pub front_at : (u x : ℕ) (r : List ℕ) → u ≡ x → Front u x r
  front_at u x r e = ([], tt, sym e, λ w m. or_left (eqb w x) (mem w r) (eq-eqb w x (mem_one w x m)))

  pub front_more : (u x y : ℕ) (r : List ℕ) → R x y → mem x (y ∷ r) ≡ false → Front u y r → Front u x (y ∷ r)
  front_more u x y r a m t =
      let d : mem x (y ∷ t.0) ≡ false = ⊎_elim (λ h. absurd (clash (mem x (y ∷ r)) (t.3 x h) m)) (λ h. h) (cases_Bool (mem x (y ∷ t.0)))
      in (
        y ∷ t.0,
        (a, d, t.1),
        t.2,
        λ w h. ⊎_elim
            (λ e. or_left (eqb w x) (mem w (y ∷ r)) e)
            (λ e. or_right (eqb w x) (mem w (y ∷ r)) (t.3 w e))
            (or_cases (eqb w x) (mem w (y ∷ t.0)) h),
      )

  pub front : (u x : ℕ) (r : List ℕ) → Joined R (x ∷ r) → mem u (x ∷ r) ≡ true → Front u x r
  front u x [] j m = front_at u x [] (mem_one u x m)
  front u x (y ∷ r) j m = ⊎_elim
      (λ e. front_at u x (y ∷ r) (eqb-true u x e))
      (λ e. front_more u x y r j.0 j.1 (front u y r j.2 e))
      (or_cases (eqb u x) (mem u (y ∷ r)) m)

  -- the last party of a joined route of two or more is paid
  pub paid_last : (x y : ℕ) (r : List ℕ) → Joined R (x ∷ (y ∷ r)) → (u : ℕ) × R u (last y r)
  paid_last x y [] j = (x, j.0)
  paid_last x y (z ∷ r) j = paid_last y z r j.2

  pub reached : (x v : ℕ) (r : List ℕ) → (x ≡ v → ⊥) → Joined R (x ∷ r) → last x r ≡ v → (u : ℕ) × R u v
  reached x v [] d j e = absurd (d e)
  reached x v (y ∷ r) d j e = let t = paid_last x y r j in (t.0, subst (λ w. R t.0 w) e t.1)

-- no leader is on the route
abbrev pub Unled : Swap → List ℕ → Type 0
Unled p r = (w : ℕ) → mem w r ≡ true → p.leader w ≡ false

module _ (p : Swap) (s : Sound p) where
  -- every party is paid
  pub entered : (v : ℕ) → v < p.parties → (u : ℕ) × Pays p u v
  entered v h =
      ⊎_elim (λ e. from 1 (omega (arith, s.few)) (omega arith)) (λ e. from 0 (omega (arith, s.few)) (λ z. e (sym z))) (cases_eq v 0)
    where
      from : (x : ℕ) → x < p.parties → (x ≡ v → ⊥) → (u : ℕ) × Pays p u v
      from x b d = let t = s.connected x v b h in reached (Pays p) x v t.by d t.route t.ends

  -- who pays the first of a route without leaders is not on it: there is no cycle without a leader
  pub unled : (y x : ℕ) (r : List ℕ) → Joined (Pays p) (x ∷ r) → Unled p (x ∷ r) → Pays p y x → mem y (x ∷ r) ≡ false
  unled y x r j n a = ⊎_elim
      (λ m. let t = front (Pays p) y x r j m in
      let l = s.led x t.0 (t.1, subst (λ u. Pays p u x) (sym t.2) a) in
      absurd (clash (p.leader l.0) l.2 (n l.0 (t.3 l.0 l.1))))
      (λ f. f)
      (cases_Bool (mem y (x ∷ r)))

-- Each of k + 1 parties pays the next, the last is v, and none leads.
pub data Behind (p : Swap) : ℕ → ℕ → Type 0 where
  alone : {v : ℕ} → p.leader v ≡ false → Behind p 0 v
  after : {k u v : ℕ} → Behind p k u → Pays p u v → p.leader v ≡ false → Behind p (suc k) v

pub behind_unled : (p : Swap) {k v : ℕ} → Behind p k v → p.leader v ≡ false
behind_unled p (alone h) = h
behind_unled p (after w a h) = h

-- with someone who pays the first of them they are a route
pub behind_short : (p : Swap) → Sound p → {k v : ℕ} → Behind p k v → (r : List ℕ) → v < p.parties → Joined (Pays p) (v ∷ r)
    → Unled p (v ∷ r) → k + length r + 2 ≤ p.span
behind_short p s (alone {v} h) r b j n =
    let t = entered p s v b in
    let m = s.spanned.most (t.0 ∷ (v ∷ r)) (t.1, unled p s t.0 v r j n t.1, j) in
    omega arith
behind_short p s (after {k} {u} {v} w a h) r b j n =
    let f = unled p s u v r j n a in
    let c : u < p.parties = subst (λ x. x < p.parties) a.2 (s.exist a.0 a.1).0 in
    let m = behind_short p s w (v ∷ r) c (a, f, j) (λ x e. ⊎_elim
    (λ d. subst (λ y. p.leader y ≡ false) (sym (eqb-true x u d)) (behind_unled p w))
    (λ d. n x d)
    (or_cases (eqb x u) (mem x (v ∷ r)) e)) in
    omega arith

pub behind_span : (p : Swap) → Sound p → {k v : ℕ} → Behind p k v → v < p.parties → suc k < p.span
behind_span p s {k} {v} w b =
    let m = behind_short p s w [] b tt (λ x e. subst (λ y. p.leader y ≡ false) (sym (mem_one x v e)) (behind_unled p w)) in
    omega arith
