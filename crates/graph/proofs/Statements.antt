-- From what the search finds to what is said of routes.
use Rattle.std.proofs.Common.{◌≡◌, ℕ, suc, ◌+◌, ◌^◌, ◌<◌, ◌≤◌, max, Bool, true, false, not, ◌&&◌, eqb, ltb, leb, ◌⊎◌, MatchBool, MatchOption, Option, Some, None, List, [], ◌∷◌, drop, length, get_or, set, sym, refl, ◌∙◌, subst, inl, inr, ⊎_elim, arith}
use native.Mathlib.Nat.{zero-div}
use Rattle.graph.proofs.Joins.{joined_map, cycle_map, reaches_on, begun_at}
use Rattle.graph.proofs.Steps.{max_some}
use Rattle.graph.proofs.Ways.{route_way, way_route, way_within}
use Rattle.graph.specs.Graphs.{leg_at, Pays, Among, Longest, Table, Spanned, Connected, Connects, Led, Leads, Leaderless}
use Rattle.graph.specs.Search.{Free, Way, Row, Besides, Round, Linked, Closes, Top}
use Rattle.std.proofs.lemmas.List.Elements.{All-nil, All-cons, All-head, All-tail, All-get_or, All-from_get_or, All-from_all_within, All-weaker}
use Rattle.std.proofs.lemmas.Bool.{cases_eq, cases_lt, cases_Bool, and_parts, and_from, leb-true, or_left, or_right, ltb-true, lt-ltb, not-true, not_from_false, eq-eqb}
use Rattle.std.specs.List.{All, AllWithin, HoldsAt, zip}
use Rattle.swap.proofs.Bits.{none as no_bit}
use Rattle.swap.specs.Limits.{max_parties}
use Rattle.swap.specs.Routes.{mem, distinct, proper, last, Joined, Reaches, Cycle}
use Rattle.swap.specs.Sets.{member, Exactly}
use Rattle.swap.specs.declared.records.Leg.{Leg}

-- what holds of every party of a route holds of its last
all_last : (Q : ℕ → Type 0) (x : ℕ) (s : List ℕ) → All Q (x ∷ s) → Q (last x s)
all_last Q x [] a = All-head Q x [] a
all_last Q x (y ∷ s) a = all_last Q y s (All-tail Q x (y ∷ s) a)

-- a route by its pairs of neighbours
module _ (P : ℕ → ℕ → Type 0) where
  pub pairs_of : (ps : List ℕ) → Joined P ps → All (λ (p : ℕ × ℕ). P p.0 p.1) (zip ps (drop 1 ps))
  pairs_of [] j = absurd j
  pairs_of (x ∷ []) j = All-nil (λ (p : ℕ × ℕ). P p.0 p.1)
  pairs_of (x ∷ (y ∷ ps)) j = All-cons (λ (p : ℕ × ℕ). P p.0 p.1) (x, y) (zip (y ∷ ps) ps) j.0 (pairs_of (y ∷ ps) j.2)

  pub joined_of : (ps : List ℕ) → 1 ≤ length ps → distinct ps ≡ true → All (λ (p : ℕ × ℕ). P p.0 p.1) (zip ps (drop 1 ps)) → Joined P ps
  joined_of [] l d a = omega arith
  joined_of (x ∷ []) l d a = tt
  joined_of (x ∷ (y ∷ ps)) l d a =
      let e = and_parts (not (mem x (y ∷ ps))) (distinct (y ∷ ps)) d in (
        All-head (λ (p : ℕ × ℕ). P p.0 p.1) (x, y) (zip (y ∷ ps) ps) a,
        not-true (mem x (y ∷ ps)) e.0,
        joined_of (y ∷ ps) (omega arith) e.1 (All-tail (λ (p : ℕ × ℕ). P p.0 p.1) (x, y) (zip (y ∷ ps) ps) a),
      )

  pub joined_is : (ps rest : List ℕ) → proper ps ≡ true → rest ≡ drop 1 ps → (r : Bool)
      → MatchBool r (AllWithin (λ (p : ℕ × ℕ). P p.0 p.1) (zip ps rest) 0 (length (zip ps rest)))
      ((k : ℕ) × (k < length (zip ps rest)) × HoldsAt (λ (p : ℕ × ℕ). P p.0 p.1 → ⊥) (zip ps rest) k)
      → Exactly r (Joined P ps)
  joined_is ps rest h e true m =
      let a = and_parts (leb 1 (length ps) && leb (length ps) max_parties) (distinct ps) h in
      let some = leb-true _ _ (and_parts (leb 1 (length ps)) (leb (length ps) max_parties) a.0).0 in
      joined_of ps some a.1 (rw e at (All-from_all_within (λ (p : ℕ × ℕ). P p.0 p.1) (zip ps rest) m))
  joined_is ps rest h e false m = λ j.
      let a : All (λ (p : ℕ × ℕ). P p.0 p.1) (zip ps rest) = rw e (pairs_of ps j) in
      m.2 (0, 0) (a m.0 (0, 0) m.1)

-- the span, as far as the routes that begin with a party below x
pub record SpanBelow (P : ℕ → ℕ → Type 0) (n x w : ℕ) : Type 0 where
  pub some : 0 < w → (z : ℕ) × (s : List ℕ) × (z < n) × Joined P (z ∷ s) × (suc (length s) ≡ w)
  pub most : (z : ℕ) (s : List ℕ) → z < x → Joined P (z ∷ s) → suc (length s) ≤ w

module _ (legs : List Leg) (n : ℕ) where
  within : (x : ℕ) (s : List ℕ) → Joined (Among n legs) (x ∷ s) → All (λ q. q < n) s
  within x [] j = All-nil (λ q. q < n)
  within x (y ∷ s) j = All-cons (λ q. q < n) y s j.0.2 (within y s j.2)

  pub plain : (r : List ℕ) → Joined (Among n legs) r → Joined (Pays legs) r
  plain = joined_map (Among n legs) (Pays legs) (λ x y p. p.0)

  among : (x : ℕ) (s : List ℕ) → Joined (Pays legs) (x ∷ s) → All (λ q. q < n) (x ∷ s) → Joined (Among n legs) (x ∷ s)
  among x [] j a = tt
  among x (y ∷ s) j a =
      let rest = All-tail (λ q. q < n) x (y ∷ s) a in
      ((j.0, All-head (λ q. q < n) x (y ∷ s) a, All-head (λ q. q < n) y s rest), j.1, among y s j.2 rest)

  -- every party of a cycle pays
  cycle_within : (x : ℕ) (s : List ℕ) → Cycle (Among n legs) x s → All (λ q. q < n) (x ∷ s)
  cycle_within x s c = All-cons (λ q. q < n) x s c.1.2 (within x s c.0)

  module _ (out : ℕ) (f : List Bool) (b : Besides n out f) where
    free_in : (z : ℕ) → Free f z → (z < n) × (member out z ≡ false)
    free_in z h =
        let e = and_parts (ltb z n) (not (member out z)) (sym (b z) ∙ h) in
        (ltb-true z n e.0, not-true (member out z) e.1)

    in_free : (z : ℕ) → z < n → member out z ≡ false → Free f z
    in_free z l m = b z ∙ and_from (ltb z n) (not (member out z)) (lt-ltb z n l) (not_from_false (member out z) m)

    below : (s : List ℕ) → All (Free f) s → All (λ q. q < n) s
    below s a = All-weaker (Free f) (λ q. q < n) (λ q h. (free_in q h).0) s a

    pub leaderless : (p : ℕ) → Round (Pays legs) f p → Leaderless (Among n legs) out p
    leaderless p r =
        let a = below (p ∷ r.by) r.free in
        record {
          from = p;
          by = r.by;
          cycle = (among p r.by r.cycle.0 a, (r.cycle.1, all_last (λ q. q < n) p r.by a, All-head (λ q. q < n) p r.by a));
          on = or_left (eqb p p) (mem p r.by) (eq-eqb p p refl);
          none = All-weaker (Free f) (λ q. member out q ≡ false) (λ q h. (free_in q h).1) (p ∷ r.by) r.free;
        }

    free_both : (s : List ℕ) → All (λ q. q < n) s → All (λ q. member out q ≡ false) s → All (Free f) s
    free_both s a m = All-from_get_or (Free f) s 0 (λ i l. in_free (get_or s i 0)
        (All-get_or (λ q. q < n) s i 0 l a) (All-get_or (λ q. member out q ≡ false) s i 0 l m))

    pub round_from : (p : ℕ) → Leaderless (Among n legs) out p → Round (Pays legs) f p
    round_from p l =
        let c = begun_at (Among n legs) (λ q. member out q ≡ false) p l.from l.by l.cycle l.none l.on in
        record {
          by = c.0;
          cycle = cycle_map (Among n legs) (Pays legs) (λ x y q. q.0) p c.0 c.1;
          free = free_both (p ∷ c.0) (cycle_within p c.0 c.1) c.2;
        }

    pub led : ((q : ℕ) → q < n → Round (Pays legs) f q → ⊥) → Led (Among n legs) (member out)
    led h x r c = go (leader (x ∷ r))
      where
        leader : (s : List ℕ) → ((p : ℕ) × (mem p s ≡ true) × (member out p ≡ true)) ⊎ All (λ q. member out q ≡ false) s
        leader [] = inr (All-nil (λ q. member out q ≡ false))
        leader (y ∷ s) =
            ⊎_elim
            (λ e. inl (y, or_left (eqb y y) (mem y s) (eq-eqb y y refl), e))
            (λ e. ⊎_elim (λ p. inl (p.0, or_right (eqb p.0 y) (mem p.0 s) p.1, p.2)) (λ a. inr (All-cons (λ q. member out q ≡ false) y s e a)) (leader s))
            (cases_Bool (member out y))

        go : ((p : ℕ) × (mem p (x ∷ r) ≡ true) × (member out p ≡ true)) ⊎ All (λ q. member out q ≡ false) (x ∷ r)
            → (p : ℕ) × (mem p (x ∷ r) ≡ true) × (member out p ≡ true)
        go (inl p) = p
        go (inr a) =
            absurd (h x c.1.2 (round_from x (record
            { from = x; by = r; cycle = c; on = or_left (eqb x x) (mem x r) (eq-eqb x x refl); none = a })))

    -- the first party on a cycle of free parties, if there is one
    pub unled_is : (m : ℕ) → m ≡ n → (r : Option ℕ)
        → MatchOption r ((k : ℕ) → 0 ≤ k → k < m → Round (Pays legs) f k → ⊥)
        (λ p. (0 ≤ p) × (p < m) × Round (Pays legs) f p × ((k : ℕ) → 0 ≤ k → k < p → Round (Pays legs) f k → ⊥))
        → Leads (Among n legs) n out r
    unled_is m e None h = led (λ q l. h q (omega arith) (omega arith))
    unled_is m e (Some p) h = record {
      exists = omega (arith, h.1);
      cycle = leaderless p h.2;
      lowest = λ q l c. h.3 q (omega arith) l (round_from q c);
    }

  -- the table of the routes from x
  pub table : (f : List Bool) → Besides n 0 f → (x : ℕ) (t : List ℕ) → Free f x → Row (Pays legs) (set f x false) x t
      → Table (Among n legs) n x t
  table f b x t fx r = record {
    inside = λ l y m. record {
      some = λ h.
          let s = r.some y h in
          (s.0, among x s.0 (way_route (Pays legs) f x s.0 s.1) (all_below s.0 l s.1), s.2, s.3);
      most = λ s j e.
          subst (λ q. suc (length s) ≤ get_or t q 0) e
          (r.most s (route_way (Pays legs) f x s (plain (x ∷ s) j)
          (All-weaker (λ q. q < n) (Free f) (λ q h. in_free 0 f b q h (none q)) s (within x s j))));
    };
    outside = λ y h.
        let s = r.some y h in
        let l = (free_in 0 f b x fx).0 in
        (l, subst (λ q. q < n) s.2 (all_last (λ q. q < n) x s.0 (all_below s.0 l s.1)));
  }
    where
      none : (q : ℕ) → member 0 q ≡ false
      none q = no_bit 0 q (zero-div (2 ^ q))

      all_below : (s : List ℕ) → x < n → Way (Pays legs) (set f x false) x s → All (λ q. q < n) (x ∷ s)
      all_below s l w = All-cons (λ q. q < n) x s l (below 0 f b s (way_within (Pays legs) f x s w))

  pub span_more : (x w : ℕ) (t : List ℕ) (v : ℕ) → SpanBelow (Among n legs) n x w → x < n → Table (Among n legs) n x t → Top t v
      → SpanBelow (Among n legs) n (x + 1) (max w v)
  span_more x w t v b l tab top = record {
    some = λ h. ⊎_elim
        (λ e. let s = b.some (omega (arith, e)) in (s.0, s.1, s.2, s.3, s.4 ∙ sym e))
        (λ e.
        let k = top.some.0 in
        let pos : 0 < get_or t k 0 = omega (arith, e, top.some.1) in
        let s = (tab.inside l k (tab.outside k pos).1).some pos in
        (x, s.0, l, s.1, s.3 ∙ top.some.1 ∙ sym e))
        (max_some w v);
    most = λ z s h j. ⊎_elim
        (λ e.
        let j' = subst (λ q. Joined (Among n legs) (q ∷ s)) e j in
        let y = last x s in
        let m = (tab.inside l y (all_last (λ q. q < n) x s (All-cons (λ q. q < n) x s l (within x s j')))).most s j' refl in
        let a = top.all y in
        omega arith)
        (λ d. let m = b.most z s (omega (arith, d)) j in omega arith)
        (cases_eq z x);
  }

  pub span_all : (w : ℕ) → SpanBelow (Among n legs) n n w → Spanned (Among n legs) n w
  span_all w b = record {
    some = λ l.
        let one : 1 ≤ w = b.most 0 [] l tt in
        let s = b.some one in
        record { some = (s.0 ∷ s.1, s.3, All-cons (λ q. q < n) s.0 s.1 s.2 (within s.0 s.1 s.3), s.4); most = every one };
    none = λ e. ⊎_elim (λ h. let s = b.some h in let k = s.2 in absurd (omega arith)) (λ h. omega arith) (cases_lt 0 w);
  }
    where
      every : 1 ≤ w → (r : List ℕ) → Joined (Among n legs) r → length r ≤ w
      every one [] j = absurd j
      every one (z ∷ []) j = one
      every one (z ∷ (y ∷ s)) j = b.most z (y ∷ s) j.0.1 j

module _ (P : ℕ → ℕ → Type 0) where
  pub reaches : (x y w : ℕ) → Longest P x y w → 0 < w → Reaches P x y
  reaches x y w l h = let s = l.some h in record { by = s.0; route = s.1; ends = s.2 }

  pub connected : (n : ℕ) → ((q : ℕ) → q < n → Reaches P 0 q × Reaches P q 0) → Connected P n
  connected n h x y l m = reaches_on P x 0 y (h x l).1 (h y m).0

  -- the first party that is apart from party 0, if there is one
  pub cut_off_is : (n m : ℕ) → m ≡ n → (r : Option ℕ)
      → MatchOption r ((k : ℕ) → 0 ≤ k → k < m → Linked P 0 k true)
      (λ p. (0 ≤ p) × (p < m) × Linked P 0 p false × ((k : ℕ) → 0 ≤ k → k < p → Linked P 0 k true))
      → Connects P n r
  cut_off_is n m e None h = connected n (λ q l. h q (omega arith) (omega arith))
  cut_off_is n m e (Some p) h = record { exists = omega (arith, h.1); apart = h.2; lowest = λ q l. h.3 q (omega arith) l }

-- a cycle of free parties through p, from the table of ways from p
pub round_is : (legs : List Leg) (f : List Bool) (p : ℕ) (t : List ℕ) → Free f p → Row (Pays legs) (set f p false) p t
    → (r : Bool) → Exactly r (Closes legs t p) → Exactly r (Round (Pays legs) f p)
round_is legs f p t fp r true h =
    let s = r.some (leg_at legs h.0).payer h.3 in
    record {
      by = s.0;
      cycle = (way_route (Pays legs) f p s.0 s.1, (h.0, h.1, sym s.2, h.2));
      free = All-cons (Free f) p s.0 fp (way_within (Pays legs) f p s.0 s.1);
    }
round_is legs f p t fp r false h = λ c.
    let q = c.cycle.1 in
    let most = r.most c.by (route_way (Pays legs) f p c.by c.cycle.0 (All-tail (Free f) p c.by c.free)) in
    let k : 0 < get_or t (last p c.by) 0 = omega arith in
    h (q.0, q.1, q.3, subst (λ y. 0 < get_or t y 0) (sym q.2) k)
