-- The invariants hold at the start and are kept by every step; what they give once a tick is done.
use Rattle.std.proofs.Common.{◌≡◌, ℕ, ◌*◌, ◌<◌, ◌≤◌, Bool, true, false, ◌||◌, List, length, Some, None, sym, refl, ap, ◌∙◌, subst, ⊎_elim, mul-le-mul_right, arith, is_some}
use Rattle.protocol.proofs.Basics.{one_if}
use Rattle.protocol.proofs.Books.{books_fresh, books_took, enough, safe}
use Rattle.protocol.proofs.Delivery.{inv_deliver}
use Rattle.protocol.proofs.Filing.{outsiders_file, may_fact, inv_file, inv_begin, inv_sign, inv_tick}
use Rattle.protocol.proofs.Invariants.{KeyLine, RefundLine, LineFact, Fair, Inv}
use Rattle.protocol.proofs.Standing.{clash, paid, standing, leader_lock, opened_in, opened_of, entering_in}
use Rattle.protocol.proofs.Ways.{way_last, way_signed, way_ends, way_short, of_some, none_of}
use Rattle.protocol.specs.Calls.{proper, outsiders, fresh}
use Rattle.protocol.specs.Promises.{paid_in_full, put_up, fallen, spent}
use Rattle.protocol.specs.State.{Phase, Vacant, Held, Paid, Back, is_vacant, is_held, is_paid, is_back, Transaction, Open, Key, Refund, Run, conforming, stands, entering_stand, refund_tick, last_tick}
use Rattle.protocol.specs.Steps.{HasLine, Entering, Rested, Step, outside, begins, signs, files, delivers, ticks, Steps, stop, then}
use Rattle.protocol.specs.Tables.{count_below}
use Rattle.protocol.specs.Verdicts.{all_opened}
use Rattle.std.proofs.lemmas.Bool.{and_parts, and_from, or_left, or_right, not-true, cases_Bool, cases_eq, ltb-true}
use Rattle.swap.specs.Limits.{outsider_lines, set_bits}
use Rattle.swap.specs.Swaps.{Swap, Sound}

pub fair : (p : Swap) (x : Transaction) → proper p x ≡ true → Fair p x
fair p (Open i asset locks) h = let a = and_parts _ _ h in (ltb-true _ _ a.0, a.1)
fair p (Key i q) h = (ltb-true _ _ (and_parts _ _ (and_parts _ _ h).0).0, tt)
fair p (Refund i) h = (ltb-true _ _ h, tt)

conforming_not : (p : Swap) (v : ℕ) → conforming p v ≡ true → p.outsider v ≡ false
conforming_not p v c = not-true _ (and_parts _ _ c).1

pub outsider_not : (p : Swap) (v : ℕ) → p.outsider v ≡ true → conforming p v ≡ true → ⊥
outsider_not p v o c = clash (p.outsider v) o (not-true _ (and_parts _ _ c).1)

few_fresh : (p : Swap) → outsiders p (fresh p) ≤ outsider_lines
unfolding count_below
few_fresh p = omega arith

pub inv_fresh : (p : Swap) → Sound p → Inv p (fresh p)
inv_fresh p s = record {
  facts = record {
    routes = λ i lock q b h. grind arith;
    led = λ i lock q b h. grind arith;
    proper = λ i lock b h. grind arith;
    ranged = λ i b h. grind arith;
    shut = λ i lock b h. refl;
    held = λ i b h. grind arith;
    paid = λ i b h. grind arith;
    returned = λ i b h. grind arith;
    planned = λ i b c h. grind arith;
    late = λ i b h. grind arith;
    signs = λ v lock q c h. grind arith;
    signs_led = λ v lock q c h. grind arith;
    followed = λ v c l h. grind arith;
    leading = λ v c l h. refl;
    revealing = λ v c l h o. omega arith;
    relaying = λ v lock j q c d h l o g. omega arith;
  };
  lines = record {
    fair = λ n h. absurd (omega arith);
    who = λ n h. absurd (omega arith);
    before = λ n h. absurd (omega arith);
    waits = λ n h. absurd (omega arith);
    facts = λ n h. absurd (omega arith);
    once = λ n m h. absurd (omega arith);
  };
  duties = record {
    opening = λ v i c h. grind arith;
    raised = λ i b c h. grind arith;
    passing = λ v lock i q c h. grind arith;
    refunding = λ v i c l h. grind arith;
  };
  books = books_fresh p s;
  few = few_fresh p;
}

pub inv_step : (p : Swap) → Sound p → (r t : Run) → Inv p r → Step p r t → Inv p t
inv_step p s r t k (outside _ v x o d h) =
    inv_file p r v x k (fair p x h) (λ _. o) (λ c. absurd (outsider_not p v o c)) (λ c. absurd (outsider_not p v o c))
    (let a = outsiders_file p r v x in let b : one_if (p.outsider v) ≡ 1 = ap one_if o in omega arith)
inv_step p s r t k (begins _ v c b m) = inv_begin p s r k v c m
inv_step p s r t k (signs _ v lock q c e u m) = inv_sign p s r k v lock q c e u m
inv_step p s r t k (files _ v x c m n) =
    let f = may_fact p s r k v x c m n in inv_file p r v x k f.0 (λ d. absurd (clash _ c d)) (λ _. f.1) (λ _. n)
    (let a = outsiders_file p r v x in let b : one_if (p.outsider v) ≡ 0 = ap one_if (conforming_not p v c) in let e = k.few in omega arith)
inv_step p s r t k (delivers _ n b w e) = inv_deliver p s (books_took p s) (enough p s) r k n b w e
inv_step p s r t k (ticks _ rest) = inv_tick p r k rest

pub inv_steps : (p : Swap) → Sound p → (r t : Run) → Inv p r → Steps p r t → Inv p t
inv_steps p s r t k (stop _) = k
inv_steps p s r t k (then {s = m} h g) = inv_step p s m t (inv_steps p s r m k h) g

module _ (p : Swap) (s : Sound p) (r : Run) (k : Inv p r) (rest : Rested p r) where
  -- a line of a conforming party, with what is known of it
  line_fact : (v : ℕ) → conforming p v ≡ true → (x : Transaction) → (h : HasLine r v x)
      → LineFact p r.escrow r.signed r.begun v (r.line h.0).filed (r.verdict h.0) x
  line_fact v c x h =
      subst (λ u. LineFact p r.escrow r.signed r.begun u (r.line h.0).filed (r.verdict h.0) x) h.2
      (subst (λ y. LineFact p r.escrow r.signed r.begun (r.line h.0).filer (r.line h.0).filed (r.verdict h.0) y) h.3
      (k.lines.facts h.0 h.1 (subst (λ u. conforming p u ≡ true) (sym h.2) c)))

  module _ (v : ℕ) (c : conforming p v ≡ true) (late : refund_tick p ≤ r.tick) where
    -- what v signed for a lock has opened it on every entering leg
    arrived : (lock : ℕ) (q : List ℕ) → r.signed v lock ≡ Some q → (i : ℕ) → Entering p v i → is_some ((r.escrow i).opened lock) ≡ true
    arrived lock q e i l =
        let h = (rest.done v c).passed lock i q l e in
        let f : KeyLine p r.escrow r.signed v (r.line h.0).filed (r.verdict h.0) i q = line_fact v c (Key i q) h in
        let w = (k.facts.signs v lock q c e).0 in
        let m : length q * p.delta ≤ p.span * p.delta = mul-le-mul_right p.delta (way_short p s w) in
        let t = f.intime in
        subst (λ z. is_some ((r.escrow i).opened z) ≡ true) (way_ends p w) (f.took (λ z. let u = rest.fresh h.0 h.1 z in omega arith))

    pub atomic : (j : ℕ) → j < p.legs → p.payer j ≡ v → is_paid (r.escrow j).phase ≡ true
        → (i : ℕ) → i < p.legs → p.receiver i ≡ v → paid_in_full p i (r.escrow i) ≡ true
    atomic j jb je jp i ib ie = and_from _ _ (stood i (ib, ie)) (ended (r.escrow i).phase refl)
      where
        phase : (r.escrow j).phase ≡ Paid
        phase = paid (r.escrow j).phase jp

        planned : (stands p j (r.escrow j) ≡ true) × (r.begun v ≡ true)
        planned =
            let h = k.facts.planned j jb (subst (λ u. conforming p u ≡ true) (sym je) c) (rw phase refl) in
            (h.0, subst (λ u. r.begun u ≡ true) je h.1)

        small : (lock : ℕ) → p.leader lock ≡ true → lock < set_bits
        small lock l = let a = s.leaders lock l in let b = s.most in omega arith

        shown : (lock : ℕ) → p.leader lock ≡ true → is_some ((r.escrow j).opened lock) ≡ true
        shown lock l = opened_in (r.escrow j).locks (r.escrow j).opened (k.facts.paid j jb phase) lock (small lock l)
            (leader_lock p (r.escrow j).locks (standing p j (r.escrow j) planned.0).2 lock (small lock l) ∙ l)

        all : (b : Bool) → p.leader v ≡ b → entering_stand p r.escrow v ≡ true
        all true e =
            let o = of_some ((r.escrow j).opened v) (shown v e) in
            let w = k.facts.routes j v o.0 jb o.1 in
            let q = of_some (r.signed v v) (way_signed p w v c (way_last p w)) in
            (k.facts.signs v v q.0 c q.1).1
        all false e = k.facts.followed v c e planned.1

        stood : (i : ℕ) → Entering p v i → stands p i (r.escrow i) ≡ true
        stood i l = entering_in p r.escrow v (all (p.leader v) refl) i l

        signed : (lock : ℕ) → p.leader lock ≡ true → is_some (r.signed v lock) ≡ true
        signed lock l = ⊎_elim (λ t. t)
            (λ f. let u = none_of (r.signed v lock) f in absurd (⊎_elim
            (λ e. (rest.done v c).reveals (subst (λ z. p.leader z ≡ true) e l) (all (p.leader v) refl)
            (subst (λ z. r.signed v z ≡ None) e u))
            (λ d. let o = of_some ((r.escrow j).opened lock) (shown lock l) in
            (rest.done v c).relays lock j o.0 d (all (p.leader v) refl) (jb, je) o.1 u)
            (cases_eq lock v)))
            (cases_Bool (is_some (r.signed v lock)))

        opened : all_opened (r.escrow i).locks (r.escrow i).opened ≡ true
        opened = opened_of (r.escrow i).locks (r.escrow i).opened (λ lock b l.
            let t : p.leader lock ≡ true = sym (leader_lock p (r.escrow i).locks (standing p i (r.escrow i) (stood i (ib, ie))).2 lock b)
            ∙ l in
            let q = of_some (r.signed v lock) (signed lock t) in
            arrived lock q.0 q.1 i (ib, ie))

        ended : (f : Phase) → (r.escrow i).phase ≡ f → is_paid (r.escrow i).phase ≡ true
        ended Vacant e = absurd (clash _ (ap is_vacant e) (standing p i (r.escrow i) (stood i (ib, ie))).0)
        ended Held e = absurd (clash _ opened (k.facts.held i ib e))
        ended Paid e = ap is_paid e
        ended Back e = absurd (clash _ opened (k.facts.returned i ib e))

  module _ (v : ℕ) (c : conforming p v ≡ true) (late : last_tick p ≤ r.tick) where
    not_open : (i : ℕ) → i < p.legs → p.payer i ≡ v → (r.escrow i).phase ≡ Held → ⊥
    not_open i b e h =
        let d = s.delay.0 in
        ⊎_elim
        (λ l. let f : RefundLine p r.escrow v (r.line l.0).filed (r.verdict l.0) i = line_fact v c (Refund i) l in
        let t = f.due in
        clash _ (ap is_held h) (f.took (λ z. let u = rest.fresh l.0 l.1 z in omega arith)))
        (λ t. omega arith)
        (k.duties.refunding v i c (b, e) h (omega arith))

    pub ended : (i : ℕ) → i < p.legs → p.payer i ≡ v → put_up p (r.escrow i) ≡ true
        → (is_paid (r.escrow i).phase || is_back (r.escrow i).phase) ≡ true
    ended i b e h = go (r.escrow i).phase refl
      where
        go : (f : Phase) → (r.escrow i).phase ≡ f → (is_paid (r.escrow i).phase || is_back (r.escrow i).phase) ≡ true
        go Vacant z = absurd (clash _ (ap is_vacant z) (not-true _ h))
        go Held z = absurd (not_open i b e z)
        go Paid z = or_left _ _ (ap is_paid z)
        go Back z = or_right _ _ (ap is_back z)

    pub unfallen : (l u : ℕ) → fallen p r v l u ≤ spent p r.escrow v l u
    unfallen = safe p r k.books v not_open
