-- Whether a small plan is accepted, as a test that computes.
use Rattle.std.proofs.Common.{◌≡◌, ℕ, ◌<◌, ◌≤◌, Bool, true, false, not, ◌&&◌, ◌||◌, eqb, ltb, leb, List, [], ◌∷◌, length, refl, ap, subst, ⊎_elim}
use Rattle.coverage.specs.Coverage.{covered}
use Rattle.graph.specs.Graphs.{Pays, Connected, Led, Inside}
use Rattle.known.proofs.Levels.{pays, pays_found, level, passes, met, none, every_route, some_route}
use Rattle.plan.specs.Check.{Accepted}
use Rattle.swap.proofs.Below.{all_in}
use Rattle.swap.specs.Below.{all_below}
use Rattle.std.proofs.lemmas.Bool.{both_ways, and_parts, or_cases, eqb-true, eq-eqb, leb-true, ltb-true, not-true}
use Rattle.std.proofs.lemmas.List.Elements.{All-nil, All-cons}
use Rattle.std.specs.List.{All}
use Rattle.swap.specs.Routes.{mem, last, Joined, Reaches, Cycle, Span}
use Rattle.swap.specs.Sets.{member}
use Rattle.swap.specs.Views.{leg_at}
use Rattle.swap.specs.declared.records.Holding.{Holding}
use Rattle.swap.specs.declared.records.Leg.{Leg}
use Rattle.swap.specs.declared.records.Terms.{Terms}

-- the route begins with x and ends with y
abbrev pub joins : ℕ → ℕ → List ℕ → Bool
joins x y [] = false
joins x y (z ∷ r) = eqb z x && eqb (last z r) y

-- a leader is on the route
abbrev pub led_by : ℕ → List ℕ → Bool
led_by leaders [] = false
led_by leaders (x ∷ r) = member leaders x || led_by leaders r

-- if the route is a cycle, a leader is on it
abbrev pub led_cycle : List Leg → ℕ → List ℕ → Bool
led_cycle legs leaders [] = true
led_cycle legs leaders (x ∷ r) = not (pays legs (last x r) x) || led_by leaders (x ∷ r)

led_on : (leaders : ℕ) (r : List ℕ) → led_by leaders r ≡ true → (p : ℕ) × (mem p r ≡ true) × (member leaders p ≡ true)
led_on leaders [] e = absurd (both_ways false refl e)
led_on leaders (x ∷ r) e =
    ⊎_elim
    (λ h. (x, ap (λ b. b || mem x r) (eq-eqb x x refl), h))
    (λ h. let s = led_on leaders r h in (s.0, or_later (eqb s.0 x) (mem s.0 r) s.1, s.2))
    (or_cases (member leaders x) (led_by leaders r) e)
  where
    or_later : (a b : Bool) → b ≡ true → (a || b) ≡ true
    or_later true b e = refl
    or_later false b e = e

module _ (legs : List Leg) (n : ℕ) where
  abbrev pub inside : Bool
  inside = all_below (length legs) (λ i. ltb (leg_at legs i).payer n && ltb (leg_at legs i).receiver n)

  module _ (within : inside ≡ true) where
    legs_inside : Inside n legs
    legs_inside i h =
        let a = and_parts (ltb (leg_at legs i).payer n) (ltb (leg_at legs i).receiver n)
        (all_in (length legs) (λ i. ltb (leg_at legs i).payer n && ltb (leg_at legs i).receiver n) within i h) in
        (ltb-true (leg_at legs i).payer n a.0, ltb-true (leg_at legs i).receiver n a.1)

    -- a joined route of parties that pay or are paid is one of parties below n
    tails : (x : ℕ) (r : List ℕ) → x < n → Joined (Pays legs) (x ∷ r) → All (λ y. y < n) (x ∷ r)
    tails x [] h j = All-cons (λ z. z < n) x [] h (All-nil (λ z. z < n))
    tails x (y ∷ r) h j =
        let p = j.0 in
        let l = legs_inside p.0 p.1 in
        All-cons (λ z. z < n) x (y ∷ r) h (tails y r (subst (λ q. q < n) p.3 l.1) j.2)

    pub pays_below : (x y : ℕ) → Pays legs x y → x < n
    pays_below x y p = subst (λ q. q < n) p.2 (legs_inside p.0 p.1).0

    -- of a plan whose routes end with level k
    module _ (k : ℕ) (ended : none (level legs n k) ≡ true) where
      pub of_all : (p : List ℕ → Bool) → passes legs n k p ≡ true → (x : ℕ) (r : List ℕ) → x < n → Joined (Pays legs) (x ∷ r)
          → p (x ∷ r) ≡ true
      of_all p t x r h j = every_route legs n k p ended t (x ∷ r) j (tails x r h j)

      spans : (w : ℕ) → 1 ≤ w → met legs n k (λ r. eqb (length r) w) ≡ true → passes legs n k (λ r. leb (length r) w) ≡ true
          → Span (Pays legs) n w
      spans w one m t =
          let s = some_route legs n k (λ r. eqb (length r) w) m in
          record { some = (s.0, s.1, s.2, eqb-true (length s.0) w s.3); most = most }
        where
          most : (r : List ℕ) → Joined (Pays legs) r → length r ≤ w
          most [] j = absurd j
          most (x ∷ []) j = one
          most (x ∷ (y ∷ r)) j = leb-true (length (x ∷ y ∷ r)) w (of_all (λ r. leb (length r) w) t x (y ∷ r) (pays_below x y j.0) j)

      leads : (leaders : ℕ) → passes legs n k (led_cycle legs leaders) ≡ true → Led (Pays legs) (member leaders)
      leads leaders t x r c =
          let h = first x r c in
          led_on leaders (x ∷ r)
          (⊎_elim (λ e. absurd (both_ways (pays legs (last x r) x) (not-true _ e) (pays_found legs (last x r) x c.1))) (λ e. e)
          (or_cases (not (pays legs (last x r) x)) (led_by leaders (x ∷ r)) (of_all (led_cycle legs leaders) t x r h c.0)))
        where
          first : (x : ℕ) (r : List ℕ) → Cycle (Pays legs) x r → x < n
          first x r c = subst (λ q. q < n) c.1.3 (legs_inside c.1.0 c.1.1).1

      pub connects : all_below n (λ x. all_below n (λ y. met legs n k (joins x y))) ≡ true → Connected (Pays legs) n
      connects t x y h l =
          let m = all_in n (λ y. met legs n k (joins x y)) (all_in n (λ x. all_below n (λ y. met legs n k (joins x y))) t x h) y l in
          let s = some_route legs n k (joins x y) m in
          reach s.0 s.1 s.3
        where
          reach : (r : List ℕ) → Joined (Pays legs) r → joins x y r ≡ true → Reaches (Pays legs) x y
          reach [] j e = absurd j
          reach (z ∷ r) j e =
              let a = and_parts (eqb z x) (eqb (last z r) y) e in
              let q = eqb-true z x a.0 in
              record {
                by = r;
                route = subst (λ z. Joined (Pays legs) (z ∷ r)) q j;
                ends = subst (λ z. last z r ≡ y) q (eqb-true (last z r) y a.1);
              }

pub covered_by : (holdings : List Holding) (legs : List Leg) → all_below (length legs) (covered holdings legs) ≡ true →
    (i : ℕ) → i < length legs → covered holdings legs i ≡ true
covered_by holdings legs t = all_in (length legs) (covered holdings legs) t

-- the whole test, for a plan whose routes end with level k and whose span is w
abbrev pub accepts : Terms → List Holding → List Leg → ℕ → ℕ → Bool
accepts terms holdings legs k w =
    all_below (length legs) (covered holdings legs)
    && (inside legs terms.parties
    && (none (level legs terms.parties k)
    && (all_below terms.parties (λ x. all_below terms.parties (λ y. met legs terms.parties k (joins x y)))
    && (passes legs terms.parties k (led_cycle legs terms.leaders.bits)
    && (met legs terms.parties k (λ r. eqb (length r) w)
    && (passes legs terms.parties k (λ r. leb (length r) w) && leb 1 w))))))

pub accepted : (terms : Terms) (holdings : List Holding) (legs : List Leg) (k w : ℕ) → accepts terms holdings legs k w ≡ true
    → Accepted terms holdings legs w
accepted terms holdings legs k w t =
    let n = terms.parties in
    let t1 = and_parts _ _ t in
    let t2 = and_parts _ _ t1.1 in
    let t3 = and_parts _ _ t2.1 in
    let t4 = and_parts _ _ t3.1 in
    let t5 = and_parts _ _ t4.1 in
    let t6 = and_parts _ _ t5.1 in
    let t7 = and_parts _ _ t6.1 in
    record {
      covered = covered_by holdings legs t1.0;
      connected = connects legs n t2.0 k t3.0 t4.0;
      led = leads legs n t2.0 k t3.0 terms.leaders.bits t5.0;
      spanned = spans legs n t2.0 k t3.0 w (leb-true 1 w t7.1) t6.0 t7.0;
    }
