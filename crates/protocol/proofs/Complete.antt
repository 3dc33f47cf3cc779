-- If every party conforms, every leg is paid in full once tick 2·W·Δ is done.
use Rattle.std.proofs.Common.{◌≡◌, ℕ, zero, suc, ◌+◌, ◌*◌, ◌<◌, ◌≤◌, Bool, true, false, cond, eqb, ◌⊎◌, List, [], ◌∷◌, length, Some, None, Option, sym, refl, ap, ◌∙◌, subst, inl, inr, ⊎_elim, mul-le-mul_right, arith, is_some}
use Rattle.protocol.proofs.Basics.{put_other, took}
use Rattle.protocol.proofs.Invariants.{Signed, LineFact, Inv}
use Rattle.protocol.proofs.Routes.{Behind, alone, after, behind_span, last_mem}
use Rattle.protocol.proofs.Standing.{clash, paid, standing, leader_lock, opened_of, entering_of, entering_fails}
use Rattle.protocol.proofs.Ways.{way_ends, of_some, span_some}
use Rattle.protocol.specs.Calls.{fresh, ticked}
use Rattle.protocol.specs.Parties.{as_line, file, begin, sign}
use Rattle.protocol.specs.Promises.{paid_in_full}
use Rattle.protocol.specs.State.{Phase, Vacant, Held, Paid, Back, is_vacant, is_held, Escrow, Transaction, Open, Key, Refund, leg_of, Run, conforming, stands, all_leaders, entering_stand, open_end, refund_tick}
use Rattle.protocol.specs.Steps.{Entering, Leaving, HasLine, Done, Rested, Step, outside, begins, signs, files, delivers, ticks}
use Rattle.protocol.specs.Stocks.{Stock}
use Rattle.protocol.specs.Verdicts.{first_failed, tests, judged, altered, effect, deliver, pending, ends, all_opened}
use Rattle.std.proofs.lemmas.Bool.{cases_lt, cases_Bool, and_from, and_parts, not-false, eqb-true}
use Rattle.swap.specs.Routes.{mem, last, Joined}
use Rattle.swap.specs.Swaps.{Swap, Sound, Pays}

-- an escrow that is neither none nor open stays as it is
module _ (p : Swap) where
  ended_fails : (t : ℕ) (σ : Signed) (stock : Stock) (v : ℕ) (x : Transaction) (e : Escrow) → is_vacant e.phase ≡ false
      → is_held e.phase ≡ false
      → first_failed (tests p t σ stock v x e) ≡ 0 → ⊥
  ended_fails t σ stock v (Open i asset locks) e a b f =
      clash (is_vacant e.phase) (not-false _ (took (tests p t σ stock v (Open i asset locks) e) (omega arith) f).1.0) a
  ended_fails t σ stock v (Key i q) e a b f =
      clash (is_held e.phase) (not-false _ (took (tests p t σ stock v (Key i q) e) (omega arith) f).1.0) b
  ended_fails t σ stock v (Refund i) e a b f =
      clash (is_held e.phase) (not-false _ (took (tests p t σ stock v (Refund i) e) (omega arith) f).1.0) b

  pub ended_stays : (r : Run) (n i : ℕ) → is_vacant (r.escrow i).phase ≡ false → is_held (r.escrow i).phase ≡ false
      → (deliver p n r).escrow i ≡ r.escrow i
  unfolding deliver judged
  ended_stays r n i a b = go (eqb (judged p r (r.line n)) 0) refl
    where
      go : (z : Bool) → eqb (judged p r (r.line n)) 0 ≡ z
          → (cond z (effect p r.tick (r.line n).transaction (r.escrow, r.stock)) (r.escrow, r.stock)).0 i ≡ r.escrow i
      go false e = refl
      go true e = put_other r.escrow (leg_of (r.line n).transaction)
          (altered p r.tick (r.line n).transaction (r.escrow (leg_of (r.line n).transaction))) i
          (λ d. ended_fails r.tick r.signed r.stock (r.line n).filer (r.line n).transaction (r.escrow (leg_of (r.line n).transaction))
          (subst (λ k. is_vacant (r.escrow k).phase ≡ false) d a) (subst (λ k. is_held (r.escrow k).phase ≡ false) d b) (eqb-true _ _ e))

-- party v has a line with this transaction, filed at tick b or before
abbrev pub HasBy : Run → ℕ → Transaction → ℕ → Type 0
HasBy r v x b = (n : ℕ) × (n < r.count) × ((r.line n).filer ≡ v) × ((r.line n).transaction ≡ x) × ((r.line n).filed ≤ b)

-- what has been filed in time, claimed once the tick is done
pub record Aims (p : Swap) (r : Run) : Type 0 where
  -- after tick k·Δ a party has opened its legs, or k + 1 parties that are no leaders come one behind the other and end in it
  pub openings : (k v : ℕ) → v < p.parties → suc k ≤ p.span → k * p.delta < r.tick
      → ((i : ℕ) → Leaving p v i → HasBy r v (Open i (p.asset i) p.leader) (k * p.delta)) ⊎ Behind p k v
  -- after tick (W + m − 1)·Δ a party from which a joined route of m parties leads to a leader has passed on a key for its lock
  pub keys : (v i : ℕ) (q : List ℕ) → Entering p v i → Joined (Pays p) (v ∷ q) → p.leader (last v q) ≡ true
      → (p.span + length q) * p.delta < r.tick
      → (route : List ℕ) × (ends route ≡ last v q) × HasBy r v (Key i route) ((p.span + length q) * p.delta)
  -- after tick 2·W·Δ every leg is paid
  pub paid : refund_tick p < r.tick → (i : ℕ) → i < p.legs → paid_in_full p i (r.escrow i) ≡ true

abbrev pub Conform : Swap → Type 0
Conform p = (v : ℕ) → v < p.parties → conforming p v ≡ true

module _ (p : Swap) (s : Sound p) (all : Conform p) (r : Run) (inv : Inv p r) (rest : Rested p r) (aims : Aims p r) where
  line_fact : (v : ℕ) → v < p.parties → (x : Transaction) (b : ℕ) → (h : HasBy r v x b)
      → LineFact p r.escrow r.signed r.begun v (r.line h.0).filed (r.verdict h.0) x
  line_fact v c x b h =
      let f = inv.lines.facts h.0 h.1 (subst (λ u. conforming p u ≡ true) (sym h.2) (all v c)) in
      subst (λ u. LineFact p r.escrow r.signed r.begun u (r.line h.0).filed (r.verdict h.0) x) h.2
      (subst (λ y. LineFact p r.escrow r.signed r.begun (r.line h.0).filer (r.line h.0).filed (r.verdict h.0) y) h.3 f)

  -- what was filed Δ ticks ago has been delivered
  heard : (v : ℕ) (x : Transaction) (b : ℕ) → b + p.delta ≤ r.tick → (h : HasBy r v x b) → r.verdict h.0 ≡ pending → ⊥
  heard v x b d h e = omega (arith, rest.fresh h.0 h.1 e)

  opened_stands : (v i b : ℕ) → v < p.parties → b + p.delta ≤ r.tick → HasBy r v (Open i (p.asset i) p.leader) b
      → stands p i (r.escrow i) ≡ true
  opened_stands v i b c d h = (line_fact v c (Open i (p.asset i) p.leader) b h).took (heard v (Open i (p.asset i) p.leader) b d h)

  key_opens : (v i b : ℕ) (q : List ℕ) → v < p.parties → b + p.delta ≤ r.tick → HasBy r v (Key i q) b
      → is_some ((r.escrow i).opened (ends q)) ≡ true
  key_opens v i b q c d h = (line_fact v c (Key i q) b h).took (heard v (Key i q) b d h)

  -- a line that is there was filed at this tick or before
  has_by : (v : ℕ) (x : Transaction) (b : ℕ) → r.tick ≡ b → HasLine r v x → HasBy r v x b
  has_by v x b e h = (h.0, h.1, h.2, h.3, omega (arith, inv.lines.before h.0 h.1))

  -- v is no leader and has not all entering legs at tick k·Δ: its payer has not opened at (k − 1)·Δ
  blocked : (k v : ℕ) → suc k ≤ p.span → r.tick ≡ k * p.delta → p.leader v ≡ false → entering_stand p r.escrow v ≡ false → Behind p k v
  blocked zero v m e l f = alone l
  blocked (suc k) v m e l f =
      let t = entering_fails p r.escrow v f in
      let x = (s.exist t.0 t.1.0).0 in
      let d = s.delay.0 in
      ⊎_elim
      (λ h. absurd (clash (stands p t.0 (r.escrow t.0))
      (opened_stands (p.payer t.0) t.0 (k * p.delta) x (omega arith) (h t.0 (t.1.0, refl))) t.2))
      (λ w. after w (t.0, t.1.0, refl, t.1.1) l)
      (aims.openings k (p.payer t.0) x (omega arith) (omega arith))

  open_due : (k v : ℕ) → v < p.parties → suc k ≤ p.span → r.tick ≡ k * p.delta
      → ((i : ℕ) → Leaving p v i → HasBy r v (Open i (p.asset i) p.leader) (k * p.delta)) ⊎ Behind p k v
  open_due k v c m e = go (p.leader v) refl (r.begun v) refl
    where
      did : Done p r v
      did = rest.done v (all v c)

      filed : r.begun v ≡ true → (i : ℕ) → Leaving p v i → HasBy r v (Open i (p.asset i) p.leader) (k * p.delta)
      filed b i l = has_by v (Open i (p.asset i) p.leader) (k * p.delta) e (did.opened i l b)

      in_time_to_open : r.tick + p.delta ≤ open_end p
      in_time_to_open = omega (arith, mul-le-mul_right p.delta m)

      go : (l : Bool) → p.leader v ≡ l → (b : Bool) → r.begun v ≡ b
          → ((i : ℕ) → Leaving p v i → HasBy r v (Open i (p.asset i) p.leader) (k * p.delta)) ⊎ Behind p k v
      go true l b h = inl (filed (did.leads l))
      go false l true h = inl (filed h)
      go false l false h = ⊎_elim
          (λ t. absurd (did.follows l h t in_time_to_open))
          (λ f. inr (blocked k v m e l f))
          (cases_Bool (entering_stand p r.escrow v))

  -- from tick W·Δ on every leg stands
  all_stand : p.span * p.delta ≤ r.tick → (i : ℕ) → i < p.legs → stands p i (r.escrow i) ≡ true
  all_stand h i b = go p.span refl
    where
      c : p.payer i < p.parties
      c = (s.exist i b).0

      go : (w : ℕ) → p.span ≡ w → stands p i (r.escrow i) ≡ true
      go zero e = absurd (omega (arith, span_some p s))
      go (suc k) e =
          let d = s.delay.0 in
          let m : suc k * p.delta ≤ r.tick = subst (λ w. w * p.delta ≤ r.tick) e h in
          ⊎_elim
          (λ f. opened_stands (p.payer i) i (k * p.delta) c (omega arith) (f i (b, refl)))
          (λ w. absurd (omega (arith, behind_span p s w c)))
          (aims.openings k (p.payer i) c (omega arith) (omega arith))

  all_enter : p.span * p.delta ≤ r.tick → (v : ℕ) → entering_stand p r.escrow v ≡ true
  all_enter h v = entering_of p r.escrow v (λ i e. all_stand h i e.0)

  -- what v has signed for a lock is on its entering legs
  passed : (v i lock b : ℕ) (q : List ℕ) → v < p.parties → Entering p v i → r.tick ≡ b → r.signed v lock ≡ Some q
      → (route : List ℕ) × (ends route ≡ lock) × HasBy r v (Key i route) b
  passed v i lock b q c n e g =
      (q, way_ends p (inv.facts.signs v lock q (all v c) g).0, has_by v (Key i q) b e ((rest.done v (all v c)).passed lock i q n g))

  -- v has signed for the leader's lock: its own, or the one that the next party's key has opened on the leg to it
  must_sign : (v : ℕ) (q : List ℕ) → v < p.parties → Joined (Pays p) (v ∷ q) → p.leader (last v q) ≡ true
      → r.tick ≡ (p.span + length q) * p.delta
      → r.signed v (last v q) ≡ None → ⊥
  must_sign v [] c j l e g = (rest.done v (all v c)).reveals l (all_enter (omega arith) v) g
  must_sign v (w ∷ q) c j l e g =
      let d = s.delay.0 in
      let a = j.0 in
      let x : w < p.parties = subst (λ u. u < p.parties) a.3 (s.exist a.0 a.1).1 in
      let t = aims.keys w a.0 q (a.1, a.3) j.2 l (omega arith) in
      let o = key_opens w a.0 ((p.span + length q) * p.delta) t.0 x (omega arith) t.2 in
      let f = of_some ((r.escrow a.0).opened (last w q)) (subst (λ u. is_some ((r.escrow a.0).opened u) ≡ true) t.1 o) in
      (rest.done v (all v c)).relays (last w q) a.0 f.0
      (λ y. clash (mem v (w ∷ q)) (subst (λ u. mem u (w ∷ q) ≡ true) y (last_mem w q)) j.1)
      (all_enter (omega arith) v) (a.1, a.2) f.1 g

  key_due : (v i : ℕ) (q : List ℕ) → Entering p v i → Joined (Pays p) (v ∷ q) → p.leader (last v q) ≡ true
      → r.tick ≡ (p.span + length q) * p.delta
      → (route : List ℕ) × (ends route ≡ last v q) × HasBy r v (Key i route) ((p.span + length q) * p.delta)
  key_due v i q n j l e = go (r.signed v (last v q)) refl
    where
      c : v < p.parties
      c = subst (λ u. u < p.parties) n.1 (s.exist i n.0).1

      go : (o : Option (List ℕ)) → r.signed v (last v q) ≡ o
          → (route : List ℕ) × (ends route ≡ last v q) × HasBy r v (Key i route) ((p.span + length q) * p.delta)
      go None g = absurd (must_sign v q c j l e g)
      go (Some route) g = passed v i (last v q) ((p.span + length q) * p.delta) route c n e g

  -- at tick 2·W·Δ and later every lock of every leg is opened
  all_locks_opened : refund_tick p ≤ r.tick → (i : ℕ) → i < p.legs → all_opened (r.escrow i).locks (r.escrow i).opened ≡ true
  all_locks_opened h i b =
      opened_of (r.escrow i).locks (r.escrow i).opened (λ k u l. lock k (sym (leader_lock p (r.escrow i).locks lead k u) ∙ l))
    where
      c : p.receiver i < p.parties
      c = (s.exist i b).1

      lead : all_leaders p (r.escrow i).locks ≡ true
      lead = (standing p i (r.escrow i) (all_stand (omega arith) i b)).2

      lock : (k : ℕ) → p.leader k ≡ true → is_some ((r.escrow i).opened k) ≡ true
      lock k l =
          let d = s.delay.0 in
          let t = s.connected (p.receiver i) k c (s.leaders k l) in
          let m = s.spanned.most (p.receiver i ∷ t.by) t.route in
          let e : (p.span + length t.by) * p.delta + p.delta ≤ r.tick = omega (arith, mul-le-mul_right p.delta m) in
          let f = aims.keys (p.receiver i) i t.by (b, refl) t.route (rw t.ends l) (omega arith) in
          subst (λ u. is_some ((r.escrow i).opened u) ≡ true) (f.1 ∙ t.ends)
          (key_opens (p.receiver i) i ((p.span + length t.by) * p.delta) f.0 c e f.2)

  paid_now : r.tick ≡ refund_tick p → (i : ℕ) → i < p.legs → paid_in_full p i (r.escrow i) ≡ true
  paid_now h i b = go (r.escrow i).phase refl
    where
      up : stands p i (r.escrow i) ≡ true
      up = all_stand (omega arith) i b

      go : (f : Phase) → (r.escrow i).phase ≡ f → paid_in_full p i (r.escrow i) ≡ true
      go Vacant e = absurd (clash (is_vacant (r.escrow i).phase) (rw e refl) (standing p i (r.escrow i) up).0)
      go Held e =
          absurd (clash (all_opened (r.escrow i).locks (r.escrow i).opened) (all_locks_opened (omega arith) i b) (inv.facts.held i b e))
      go Paid e = and_from _ _ up (rw e refl)
      go Back e = absurd (omega (arith, inv.facts.late i b e))

  pub complete : refund_tick p ≤ r.tick → (i : ℕ) → i < p.legs → paid_in_full p i (r.escrow i) ≡ true
  complete h i b = ⊎_elim (λ d. aims.paid d i b) (λ d. paid_now (omega arith) i b) (cases_lt (refund_tick p) r.tick)

  pub aims_tick : Aims p (ticked r)
  aims_tick = record {
    openings = λ k v c m h. ⊎_elim (λ d. aims.openings k v c m d) (λ d. open_due k v c m (omega arith)) (cases_lt (k * p.delta) r.tick);
    keys = λ v i q n j l h. ⊎_elim (λ d. aims.keys v i q n j l d) (λ d. key_due v i q n j l (omega arith))
        (cases_lt ((p.span + length q) * p.delta) r.tick);
    paid = λ h i b. complete (omega arith) i b;
  }

pub aims_fresh : (p : Swap) → Aims p (fresh p)
aims_fresh p = record {
  openings = λ k v c m h. absurd (omega arith);
  keys = λ v i q n j l h. absurd (omega arith);
  paid = λ h i b. absurd (omega arith);
}

-- lines are only added, and what is paid stays
aims_more : (p : Swap) (r t : Run) → r.tick ≡ t.tick → ((v : ℕ) (x : Transaction) (b : ℕ) → HasBy r v x b → HasBy t v x b)
    → ((i : ℕ) → paid_in_full p i (r.escrow i) ≡ true → paid_in_full p i (t.escrow i) ≡ true) → Aims p r → Aims p t
aims_more p r t e add stay a = record {
  openings = λ k v c m h. ⊎_elim (λ f. inl (λ i l. add v (Open i (p.asset i) p.leader) (k * p.delta) (f i l))) (λ w. inr w)
      (a.openings k v c m (omega arith));
  keys = λ v i q n j l h. let u = a.keys v i q n j l (omega arith) in (u.0, u.1, add v (Key i u.0) ((p.span + length q) * p.delta) u.2);
  paid = λ h i b. stay i (a.paid (omega arith) i b);
}

by_file : (r : Run) (v : ℕ) (x : Transaction) (u : ℕ) (y : Transaction) (b : ℕ) → HasBy r u y b → HasBy (file v x r) u y b
by_file r v x u y b h =
    let e = put_other r.line r.count (as_line v x r) h.0 (omega arith) in
    (h.0, omega arith, ap (λ l. l.filer) e ∙ h.2, ap (λ l. l.transaction) e ∙ h.3, subst (λ l. l.filed ≤ b) (sym e) h.4)

paid_stays : (p : Swap) (r : Run) (n i : ℕ) → paid_in_full p i (r.escrow i) ≡ true → paid_in_full p i ((deliver p n r).escrow i) ≡ true
paid_stays p r n i h =
    let e : (r.escrow i).phase ≡ Paid = paid (r.escrow i).phase (and_parts _ _ h).1 in
    subst (λ x. paid_in_full p i x ≡ true) (sym (ended_stays p r n i (rw e refl) (rw e refl))) h

pub aims_step : (p : Swap) → Sound p → Conform p → (r t : Run) → Inv p r → Aims p r → Step p r t → Aims p t
unfolding deliver
aims_step p s all _ _ inv a (outside r v x c d f) = aims_more p r (file v x r) refl (by_file r v x) (λ i h. h) a
aims_step p s all _ _ inv a (begins r v c b m) = aims_more p r (begin v r) refl (λ u x b h. h) (λ i h. h) a
aims_step p s all _ _ inv a (signs r v lock q c e g m) = aims_more p r (sign v lock q r) refl (λ u x b h. h) (λ i h. h) a
aims_step p s all _ _ inv a (files r v x c m n) = aims_more p r (file v x r) refl (by_file r v x) (λ i h. h) a
aims_step p s all _ _ inv a (delivers r n b e f) = aims_more p r (deliver p n r) refl (λ u x b h. h) (paid_stays p r n) a
aims_step p s all _ _ inv a (ticks r rest) = aims_tick p s all r inv rest a
