-- The invariants are kept by a delivery.
use Rattle.std.proofs.Common.{◌≡◌, ℕ, ◌+◌, ◌*◌, ◌<◌, ◌≤◌, Bool, true, false, cond, not, ◌||◌, eqb, ◌⊎◌, List, length, Some, sym, refl, ap, ◌∙◌, subst, inl, inr, ⊎_elim, mul-le-mul_right, arith, is_some}
use Rattle.protocol.proofs.Alter.{Shape, Alter, unaltered, numbered, no_phase, alter_open, alter_key, alter_refund}
use Rattle.protocol.proofs.Basics.{put_case, put_same, Fails, took, passes, below}
use Rattle.swap.proofs.Below.{some_of, all_of}
use Rattle.protocol.proofs.Invariants.{Signed, Way, Facts, OpenLine, KeyLine, RefundLine, LineFact, Fair, Books, Inv}
use Rattle.protocol.proofs.Standing.{vacant, held, standing, stand, leaders_self, leader_lock, opened_in, entering_in, entering_mono, entering_new}
use Rattle.protocol.proofs.Ways.{way_party, way_begins, way_joined, way_suffixes, way_short, of_some, some_is_some, span_some}
use Rattle.protocol.specs.State.{Phase, Vacant, Held, Paid, Back, is_vacant, is_held, Escrow, Transaction, Open, Key, Refund, leg_of, Run, conforming, stands, all_leaders, key_end}
use Rattle.protocol.specs.Steps.{purpose}
use Rattle.protocol.specs.Stocks.{Stock, refuses}
use Rattle.protocol.specs.Verdicts.{pending, begins, ends, tests, altered, effect, recorded, judged, deliver, proper_locks}
use Rattle.std.proofs.lemmas.Bool.{eqb-true, eqb-false, eq-eqb, and_from, not_from_true, cases_Bool, le-ltb, lt-leb}
use Rattle.swap.specs.Swaps.{Swap, Sound}
use Rattle.swap.specs.Limits.{set_bits}

pub shape_of : (p : Swap) (r : Run) → Inv p r → (i : ℕ) → i < p.legs → Shape p r.tick i (r.escrow i)
shape_of p r k i b = record {
  proper = λ lock f h l. k.facts.proper i lock b f h l;
  ranged = λ h. k.facts.ranged i b h;
  shut = λ lock h. k.facts.shut i lock b h;
  held = λ h. k.facts.held i b h;
  paid = λ h. k.facts.paid i b h;
  returned = λ h. k.facts.returned i b h;
  late = λ h. k.facts.late i b h;
}

-- Line n is delivered with verdict w, and leaves these escrows and this stock.
module _ (p : Swap) (s : Sound p) (r : Run) (k : Inv p r) (n : ℕ) (nb : n < r.count) (w : ℕ) (told : w ≡ pending → ⊥)
    (escrow : ℕ → Escrow) (stock : Stock)
    (alters : (i : ℕ) → i < p.legs → Alter p r n i (r.escrow i) (escrow i)) where
  steady : (i : ℕ) → i < p.legs → stands p i (r.escrow i) ≡ true → stands p i (escrow i) ≡ true
  steady i b h = (alters i b).stood h

  delivered_facts : Facts p r.tick escrow r.signed r.begun
  delivered_facts = record {
    routes = λ i lock q b h. ⊎_elim (λ o. k.facts.routes i lock q b o) (λ o. o.0) ((alters i b).opens lock q h);
    led = λ i lock q b h. ⊎_elim (λ o. k.facts.led i lock q b o) (λ o. o.1) ((alters i b).opens lock q h);
    proper = λ i lock b. ((alters i b).shape (shape_of p r k i b)).proper lock;
    ranged = λ i b. ((alters i b).shape (shape_of p r k i b)).ranged;
    shut = λ i lock b. ((alters i b).shape (shape_of p r k i b)).shut lock;
    held = λ i b. ((alters i b).shape (shape_of p r k i b)).held;
    paid = λ i b. ((alters i b).shape (shape_of p r k i b)).paid;
    returned = λ i b. ((alters i b).shape (shape_of p r k i b)).returned;
    planned = λ i b c f. ⊎_elim
        (λ g. let h = k.facts.planned i b c g in (steady i b h.0, h.1))
        (λ g. let h = g c in (h.0, h.1))
        ((alters i b).fills f);
    late = λ i b. ((alters i b).shape (shape_of p r k i b)).late;
    signs = λ v lock q c h. let g = k.facts.signs v lock q c h in (g.0, entering_mono p r.escrow escrow v steady g.1);
    signs_led = k.facts.signs_led;
    followed = λ v c l h. entering_mono p r.escrow escrow v steady (k.facts.followed v c l h);
    leading = k.facts.leading;
    revealing = λ v c l e g. ⊎_elim
        (λ h. k.facts.revealing v c l h g)
        (λ h. (alters h.0 h.1).rises h.2 h.3)
        (entering_new p r.escrow escrow v e);
    relaying = λ v lock j q c d e l o g. ⊎_elim
        (λ before. ⊎_elim
        (λ h. k.facts.relaying v lock j q c d h l before g)
        (λ h. let t = (alters h.0 h.1).rises h.2 h.3 in omega arith)
        (entering_new p r.escrow escrow v e))
        (λ h. h.2)
        ((alters j l.0).opens lock q o);
  }

  -- a line that is not the one delivered
  altered_fact : (m : ℕ) → m < r.count → (m ≡ n → ⊥) → conforming p (r.line m).filer ≡ true → (x : Transaction) → (r.line m).transaction ≡ x
      → LineFact p r.escrow r.signed r.begun (r.line m).filer (r.line m).filed (r.verdict m) x
      → LineFact p escrow r.signed r.begun (r.line m).filer (r.line m).filed (r.verdict m) x
  altered_fact m mb d c (Open i asset locks) e h = record {
    leaving = h.leaving;
    planned = h.planned;
    begins = h.begins;
    first = h.first;
    intime = h.intime;
    waits = λ z. ⊎_elim
        (λ t. vacant _ t)
        (λ f. ⊎_elim
        (λ g. no_phase _ (h.waits z) g)
        (λ g. let l = g (subst (λ q. conforming p q ≡ true) (sym h.leaving.1) c) in
        absurd (d (k.lines.once m n mb nb c (sym h.leaving.1 ∙ sym l.2) (ap purpose e ∙ sym (ap purpose l.3)))))
        ((alters i h.leaving.0).fills f))
        (cases_Bool (is_vacant (escrow i).phase));
    took = λ z. steady i h.leaving.0 (h.took z);
  }
  altered_fact m mb d c (Key i q) e h = record {
    entering = h.entering;
    signs = h.signs;
    intime = h.intime;
    took = λ z. let o = of_some _ (h.took z) in some_is_some _ o.0 ((alters i h.entering.0).kept (ends q) o.0 o.1);
  }
  altered_fact m mb d c (Refund i) e h = record {
    leaving = h.leaving;
    due = h.due;
    stays = (alters i h.leaving.0).filled h.stays;
    took = λ z. (alters i h.leaving.0).ended h.stays (h.took z);
  }

  pub inv_recorded : (conforming p (r.line n).filer ≡ true
      → LineFact p escrow r.signed r.begun (r.line n).filer (r.line n).filed w (r.line n).transaction)
      → Books p escrow stock → Inv p (recorded p r n w (escrow, stock))
  inv_recorded fact books = record {
    facts = delivered_facts;
    lines = record {
      fair = k.lines.fair;
      who = k.lines.who;
      before = k.lines.before;
      waits = λ m b. put_case (λ z. z ≡ pending → r.tick ≤ (r.line m).filed + p.delta) r.verdict n w m (λ _ z. absurd (told z))
          (λ _. k.lines.waits m b);
      facts = λ m b c. put_case (λ z. LineFact p escrow r.signed r.begun (r.line m).filer (r.line m).filed z
          (r.line m).transaction) r.verdict n w m
          (λ e. subst (λ q. conforming p (r.line q).filer ≡ true
          → LineFact p escrow r.signed r.begun (r.line q).filer (r.line q).filed w (r.line q).transaction) (sym e) fact c)
          (λ d. altered_fact m b d c (r.line m).transaction refl (k.lines.facts m b c));
      once = k.lines.once;
    };
    duties = record {
      opening = k.duties.opening;
      raised = λ i b c f. ⊎_elim (λ g. k.duties.raised i b c g) (λ g. let h = g c in (n, nb, h.2, h.3)) ((alters i b).fills f);
      passing = k.duties.passing;
      refunding = λ v i c l h t. ⊎_elim
          (λ g. k.duties.refunding v i c l g t)
          (λ g. let a : 1 * p.delta ≤ p.span * p.delta = mul-le-mul_right p.delta (span_some p s) in
          let d = s.delay.0 in absurd (omega arith))
          ((alters i l.0).since h);
    };
    books = books;
    few = k.few;
  }

-- what the books promise, proved beside
abbrev pub Takes : Swap → Type 0
Takes p = (t : ℕ) (σ : Signed) (filer : ℕ) (x : Transaction) (escrow : ℕ → Escrow) (stock : Stock)
    → Fair p x → Fails (tests p t σ stock filer x (escrow (leg_of x))) → Books p escrow stock
    → Books p (effect p t x (escrow, stock)).0 (effect p t x (escrow, stock)).1

abbrev pub Enough : Swap → Type 0
Enough p = (escrow : ℕ → Escrow) (stock : Stock) → Books p escrow stock → (i : ℕ) → i < p.legs → (escrow i).phase ≡ Vacant
    → ((k : ℕ) → k < p.legs → p.payer k ≡ p.payer i → is_vacant (escrow k).phase ≡ false → stands p k (escrow k) ≡ true)
    → refuses (p.ledger i) (p.payer i) i (p.asset i) stock ≡ false

pub leaders_proper : (p : Swap) → Sound p → proper_locks p p.leader ≡ true
unfolding proper_locks
leaders_proper p s =
    let b = s.leaders s.leads.0 s.leads.1 in
    let m = s.most in
    and_from _ _ (some_of set_bits p.leader s.leads.0 (omega arith) s.leads.1)
    (all_of set_bits (λ q. not (p.leader q) || p.leader q) (λ q _. excluded (p.leader q)))
  where
    excluded : (b : Bool) → (not b || b) ≡ true
    excluded true = refl
    excluded false = refl

module _ (p : Swap) (s : Sound p) (takes : Takes p) (enough : Enough p) (r : Run) (k : Inv p r) (n : ℕ) (nb : n < r.count)
    (waits : r.verdict n ≡ pending) (earlier : (r.line n).filed < r.tick) where
  abbrev pub tests_of : Transaction → List (Bool × ℕ)
  tests_of x = tests p r.tick r.signed r.stock (r.line n).filer x (r.escrow (leg_of x))

  due : r.tick ≤ (r.line n).filed + p.delta
  due = k.lines.waits n nb waits

  -- a conforming party's open passes every test
  pub open_passes : (i asset : ℕ) (locks : ℕ → Bool) → conforming p (r.line n).filer ≡ true
      → OpenLine p r.escrow r.begun (r.line n).filer (r.line n).filed (r.verdict n) i asset locks → Fails (tests_of (Open i asset locks))
  open_passes i asset locks c h =
      let e = h.leaving.1 in
      let a = h.planned.0 in
      let t = h.intime in
      let u = due in
      let empty = h.waits waits in (
        not_from_true _ (eq-eqb _ _ (sym e)),
        (
          not_from_true _ (rw empty refl),
          (
            le-ltb _ _ (omega arith),
            (
              not_from_true _ (subst (λ l. proper_locks p l ≡ true) (sym h.planned.1) (leaders_proper p s)),
              (
                subst (λ q. refuses (p.ledger i) (p.payer i) i q r.stock ≡ false) (sym a)
                    (enough r.escrow r.stock k.books i h.leaving.0 empty
                    (λ j b d f. (k.facts.planned j b (subst (λ q. conforming p q ≡ true) (sym (d ∙ e)) c) f).0)),
                tt,
              ),
            ),
          ),
        ),
      )

  -- a conforming party's key passes every test on an open leg, or its lock is opened already
  pub key_passes : (i : ℕ) (q : List ℕ) → conforming p (r.line n).filer ≡ true
      → KeyLine p r.escrow r.signed (r.line n).filer (r.line n).filed (r.verdict n) i q
      → (is_some ((r.escrow i).opened (ends q)) ≡ true) ⊎ Fails (tests_of (Key i q))
  key_passes i q c h = ⊎_elim (λ t. inl t) (λ f. go (r.escrow i).phase refl f) (cases_Bool (is_some ((r.escrow i).opened (ends q))))
    where
      b : i < p.legs
      b = h.entering.0

      way : Way p r.signed (r.line n).filer (ends q) q
      way = (k.facts.signs (r.line n).filer (ends q) q c h.signs).0

      stood : stands p i (r.escrow i) ≡ true
      stood = entering_in p r.escrow (r.line n).filer (k.facts.signs (r.line n).filer (ends q) q c h.signs).1 i h.entering

      small : ends q < set_bits
      small = let a = way_party p s way (subst (λ z. z < p.parties) h.entering.1 (s.exist i b).1) in let m = s.most in omega arith

      lock : (r.escrow i).locks (ends q) ≡ true
      lock = leader_lock p (r.escrow i).locks (standing p i (r.escrow i) stood).2 (ends q) small
          ∙ k.facts.signs_led (r.line n).filer (ends q) q c h.signs

      in_time : r.tick ≤ key_end p (length q)
      in_time = let t = h.intime in let u = due in omega arith

      go : (f : Phase) → (r.escrow i).phase ≡ f → is_some ((r.escrow i).opened (ends q)) ≡ false
          → (is_some ((r.escrow i).opened (ends q)) ≡ true) ⊎ Fails (tests_of (Key i q))
      go Vacant e g = no_phase (r.escrow i).phase e (standing p i (r.escrow i) stood).0
      go Held e g = inr (
        not_from_true _ (and_from _ _ (eq-eqb _ _ (sym h.entering.1))
            (subst (λ z. begins z q ≡ true) (sym h.entering.1) (way_begins p way))),
        (
          not_from_true _ (rw e refl),
          (
            not_from_true _ lock,
            (
              g,
              (
                not_from_true _ (way_joined p way),
                (
                  le-ltb _ _ in_time,
                  (
                    not_from_true _ (way_suffixes p way),
                    tt,
                  ),
                ),
              ),
            ),
          ),
        ),
      )
      go Paid e g = inl (opened_in (r.escrow i).locks (r.escrow i).opened (k.facts.paid i b e) (ends q) small lock)
      go Back e g =
          let t = k.facts.late i b e in
          let u = in_time in
          let m : length q * p.delta ≤ p.span * p.delta = mul-le-mul_right p.delta (way_short p s way) in
          absurd (omega arith)

  -- a conforming party's refund passes every test on an open leg
  refund_passes : (i : ℕ) → RefundLine p r.escrow (r.line n).filer (r.line n).filed (r.verdict n) i → (r.escrow i).phase ≡ Held
      → Fails (tests_of (Refund i))
  refund_passes i h e =
      let d = h.due in (
        not_from_true _ (eq-eqb _ _ (sym h.leaving.1)),
        (
          not_from_true _ (rw e refl),
          (
            lt-leb _ _ (omega arith),
            tt,
          ),
        ),
      )

  -- it took effect
  took_alters : (x : Transaction) → (r.line n).transaction ≡ x → Fails (tests_of x) → Fair p x
      → (conforming p (r.line n).filer ≡ true → LineFact p r.escrow r.signed r.begun (r.line n).filer (r.line n).filed (r.verdict n) x)
      → Alter p r n (leg_of x) (r.escrow (leg_of x)) (altered p r.tick x (r.escrow (leg_of x)))
  took_alters (Open i asset locks) e f g h = alter_open p s r n i g.0 (r.escrow i) asset locks e
      (λ c. ((h c).begins, (h c).planned.0, (h c).planned.1)) g.1 (shape_of p r k i g.0) f
  took_alters (Key i q) e f g h = alter_key p s r n i g.0 (r.escrow i) q (shape_of p r k i g.0) f
  took_alters (Refund i) e f g h = alter_refund p s r n i g.0 (r.escrow i) (shape_of p r k i g.0) f

  took_fact : (x : Transaction) → (escrow : ℕ → Escrow) → escrow (leg_of x) ≡ altered p r.tick x (r.escrow (leg_of x))
      → conforming p (r.line n).filer ≡ true
      → LineFact p r.escrow r.signed r.begun (r.line n).filer (r.line n).filed (r.verdict n) x
      → LineFact p escrow r.signed r.begun (r.line n).filer (r.line n).filed 0 x
  took_fact (Open i asset locks) escrow e c h = record {
    leaving = h.leaving;
    planned = h.planned;
    begins = h.begins;
    first = h.first;
    intime = h.intime;
    waits = λ z. absurd (omega arith);
    took = λ _. subst (λ y. stands p i y ≡ true) (sym e)
        (stand p i (altered p r.tick (Open i asset locks) (r.escrow i)) refl h.planned.0
        (subst (λ l. all_leaders p l ≡ true) (sym h.planned.1) (leaders_self p)));
  }
  took_fact (Key i q) escrow e c h = record {
    entering = h.entering;
    signs = h.signs;
    intime = h.intime;
    took = λ _. some_is_some _ q (ap (λ y. y.opened (ends q)) e ∙ put_same (r.escrow i).opened (ends q) (Some q) (ends q) refl);
  }
  took_fact (Refund i) escrow e c h = record {
    leaving = h.leaving;
    due = h.due;
    stays = ap (λ y. is_vacant y.phase) e;
    took = λ _. ap (λ y. is_held y.phase) e;
  }

  -- it was refused
  refused_fact : (w : ℕ) → (w ≡ 0 → ⊥) → (x : Transaction) → ((Fails (tests_of x)) → w ≡ 0) → conforming p (r.line n).filer ≡ true
      → LineFact p r.escrow r.signed r.begun (r.line n).filer (r.line n).filed (r.verdict n) x
      → LineFact p r.escrow r.signed r.begun (r.line n).filer (r.line n).filed w x
  refused_fact w d (Open i asset locks) zero' c h = absurd (d (zero' (open_passes i asset locks c h)))
  refused_fact w d (Key i q) zero' c h = record {
    entering = h.entering;
    signs = h.signs;
    intime = h.intime;
    took = λ _. ⊎_elim (λ t. t) (λ f. absurd (d (zero' f))) (key_passes i q c h);
  }
  refused_fact w d (Refund i) zero' c h = record {
    leaving = h.leaving;
    due = h.due;
    stays = h.stays;
    took = λ _. ⊎_elim (λ t. absurd (d (zero' (refund_passes i h (held _ t))))) (λ f. f) (cases_Bool (is_held (r.escrow i).phase));
  }

  inv_took : Fails (tests_of (r.line n).transaction) → Inv p (recorded p r n 0 (effect p r.tick (r.line n).transaction (r.escrow, r.stock)))
  inv_took f =
      let x = (r.line n).transaction in
      let fair = k.lines.fair n nb in
      let e' = altered p r.tick x (r.escrow (leg_of x)) in
      inv_recorded p s r k n nb 0 (λ z. omega arith) (effect p r.tick x (r.escrow, r.stock)).0 (effect p r.tick x (r.escrow, r.stock)).1
      (λ i b. put_case (λ e. Alter p r n i (r.escrow i) e) r.escrow (leg_of x) e' i
      (λ z. subst (λ j. Alter p r n j (r.escrow j) e') (sym z) (took_alters x refl f fair (k.lines.facts n nb)))
      (λ _. unaltered p r n i (r.escrow i)))
      (λ c. took_fact x (effect p r.tick x (r.escrow, r.stock)).0 (put_same r.escrow (leg_of x) e' (leg_of x) refl) c
      (k.lines.facts n nb c))
      (takes r.tick r.signed (r.line n).filer x r.escrow r.stock fair f k.books)

  inv_refused : (w : ℕ) → (w ≡ 0 → ⊥) → (w ≡ pending → ⊥) → (Fails (tests_of (r.line n).transaction) → w ≡ 0)
      → Inv p (recorded p r n w (r.escrow, r.stock))
  inv_refused w d z zero' =
      inv_recorded p s r k n nb w z r.escrow r.stock (λ i b. unaltered p r n i (r.escrow i))
      (λ c. refused_fact w d (r.line n).transaction zero' c (k.lines.facts n nb c)) k.books

  pub inv_deliver : Inv p (deliver p n r)
  unfolding deliver judged
  inv_deliver = go (eqb w 0) refl
    where
      w : ℕ
      w = judged p r (r.line n)

      go : (b : Bool) → eqb w 0 ≡ b
          → Inv p (recorded p r n w (cond b (effect p r.tick (r.line n).transaction (r.escrow, r.stock)) (r.escrow, r.stock)))
      go true e =
          let z : w ≡ 0 = eqb-true w 0 e in
          subst (λ y. Inv p (recorded p r n y (effect p r.tick (r.line n).transaction (r.escrow, r.stock)))) (sym z)
          (inv_took (took (tests_of (r.line n).transaction)
          (numbered p r.tick r.signed r.stock (r.line n).filer (r.line n).transaction _) z))
      go false e =
          let u = below (tests_of (r.line n).transaction) (numbered p r.tick r.signed r.stock (r.line n).filer (r.line n).transaction _) in
          inv_refused w (eqb-false w 0 e) (λ z. omega arith) (λ f. passes (tests_of (r.line n).transaction) f)
