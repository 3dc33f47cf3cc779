-- The invariants are kept where a line is filed, a party begins or signs, and the clock moves.
use Rattle.std.proofs.Common.{◌≡◌, ℕ, suc, ◌+◌, ◌*◌, ◌<◌, ◌≤◌, Bool, true, false, cond, ◌⊎◌, List, [], ◌∷◌, length, Some, None, Option, sym, refl, ap, ◌∙◌, subst, inl, inr, ⊎_elim, mul-le-mul_right, arith}
use Rattle.protocol.proofs.Basics.{put_case, put2_case, put_same, put_other, one_if}
use Rattle.protocol.proofs.Invariants.{Signed, Way, one, LineFact, Fair, Lines, Duties, Inv}
use Rattle.protocol.proofs.Standing.{clash, vacant}
use Rattle.protocol.proofs.Ways.{way_mono, way_signed, way_front, pays_of, some_none, span_some}
use Rattle.protocol.specs.Calls.{outsiders, ticked}
use Rattle.protocol.specs.Parties.{as_line, file, begin, sign}
use Rattle.protocol.specs.State.{is_vacant, Transaction, Open, Key, Refund, Run, conforming, entering_stand, open_end, key_end, refund_tick}
use Rattle.protocol.specs.Steps.{purpose, HasLine, NoLine, Entering, Leaving, MayBegin, MaySign, own, other, MayFile, open', key, refund, Rested}
use Rattle.protocol.specs.Tables.{put, count_below}
use Rattle.protocol.specs.Verdicts.{pending, ends}
use Rattle.std.proofs.lemmas.Bool.{cases_eq, cases_Bool}
use Rattle.swap.specs.Limits.{outsider_lines}
use Rattle.swap.proofs.Sums.{sum_same}
use Rattle.swap.specs.Routes.{mem}
use Rattle.swap.specs.Swaps.{Swap, Sound}

-- the outsiders' lines
count_same : (n : ℕ) (f g : ℕ → Bool) → ((k : ℕ) → k < n → f k ≡ g k) → count_below n f ≡ count_below n g
unfolding count_below
count_same n f g h = sum_same n (λ k. one_if (f k)) (λ k. one_if (g k)) (λ k b. ap one_if (h k b))

pub outsiders_file : (p : Swap) (r : Run) (v : ℕ) (x : Transaction) → outsiders p (file v x r) ≡ outsiders p r + cond (p.outsider v) 1 0
unfolding count_below
outsiders_file p r v x =
    let a = count_same r.count (λ n. p.outsider (put r.line r.count (as_line v x r) n).filer) (λ n. p.outsider (r.line n).filer)
    (λ k b. ap (λ l. p.outsider l.filer) (put_other r.line r.count (as_line v x r) k (λ e. omega arith))) in
    let b = ap (λ l. one_if (p.outsider l.filer)) (put_same r.line r.count (as_line v x r) r.count refl) in
    omega arith

-- a line that is there stays there
pub has_file : (r : Run) (v : ℕ) (x : Transaction) (u : ℕ) (y : Transaction) → HasLine r u y → HasLine (file v x r) u y
has_file r v x u y h =
    let e = put_other r.line r.count (as_line v x r) h.0 (omega arith) in
    (h.0, omega arith, ap (λ l. l.filer) e ∙ h.2, ap (λ l. l.transaction) e ∙ h.3)

module _ (p : Swap) (r : Run) (v : ℕ) (x : Transaction) where
  lines_file : Lines p r → Fair p x → (conforming p v ≡ false → p.outsider v ≡ true)
      → (conforming p v ≡ true → LineFact p r.escrow r.signed r.begun v r.tick pending x)
      → (conforming p v ≡ true → NoLine r v x) → Lines p (file v x r)
  lines_file k fair who fact none = record {
    fair = λ n h. put_case (λ l. Fair p l.transaction) r.line r.count (as_line v x r) n (λ _. fair) (λ d. k.fair n (omega arith));
    who = λ n h. put_case (λ l. conforming p l.filer ≡ false → p.outsider l.filer ≡ true) r.line r.count (as_line v x r) n (λ _. who)
        (λ d. k.who n (omega arith));
    before = λ n h. put_case (λ l. l.filed ≤ r.tick) r.line r.count (as_line v x r) n (λ _. omega arith) (λ d. k.before n (omega arith));
    waits = λ n h. put2_case (λ l w. w ≡ pending → r.tick ≤ l.filed + p.delta) r.line r.verdict r.count (as_line v x r) pending n
        (λ _ _. omega arith) (λ d. k.waits n (omega arith));
    facts = λ n h. put2_case (λ l w. conforming p l.filer ≡ true → LineFact p r.escrow r.signed r.begun l.filer l.filed w l.transaction)
        r.line r.verdict r.count (as_line v x r) pending n (λ _. fact) (λ d. k.facts n (omega arith));
    once = λ n m a b. put_case (λ l. conforming p l.filer ≡ true → l.filer ≡ (put r.line r.count (as_line v x r) m).filer
        → purpose l.transaction ≡ purpose (put r.line r.count (as_line v x r) m).transaction → n ≡ m)
        r.line r.count (as_line v x r) n
        (λ e c. put_case (λ l. v ≡ l.filer → purpose x ≡ purpose l.transaction → n ≡ m) r.line r.count (as_line v x r) m
        (λ d _ _. e ∙ sym d) (λ d f q. absurd (none c m (omega arith) (sym f) (sym q))))
        (λ e c. put_case (λ l. (r.line n).filer ≡ l.filer → purpose (r.line n).transaction ≡ purpose l.transaction → n ≡ m) r.line r.count
        (as_line v x r) m
        (λ d f q. absurd (none (subst (λ w. conforming p w ≡ true) f c) n (omega arith) f q))
        (λ d. k.once n m (omega arith) (omega arith) c));
  }

  duties_file : Duties p r → Duties p (file v x r)
  duties_file d = record {
    opening = λ u i c b l. ⊎_elim (λ h. inl (has_file r v x u _ h)) (λ h. inr h) (d.opening u i c b l);
    raised = λ i l c b. has_file r v x (p.payer i) _ (d.raised i l c b);
    passing = λ u lock i q c b l. ⊎_elim (λ h. inl (has_file r v x u _ h)) (λ h. inr h) (d.passing u lock i q c b l);
    refunding = λ u i c b l h. ⊎_elim (λ h. inl (has_file r v x u _ h)) (λ h. inr h) (d.refunding u i c b l h);
  }

  pub inv_file : Inv p r → Fair p x → (conforming p v ≡ false → p.outsider v ≡ true)
      → (conforming p v ≡ true → LineFact p r.escrow r.signed r.begun v r.tick pending x)
      → (conforming p v ≡ true → NoLine r v x) → outsiders p (file v x r) ≤ outsider_lines → Inv p (file v x r)
  inv_file i fair who fact none few = record {
    facts = i.facts;
    lines = lines_file i.lines fair who fact none;
    duties = duties_file i.duties;
    books = i.books;
    few = few;
  }

-- what a conforming party may file is in time, and can be delivered
pub may_fact : (p : Swap) → Sound p → (r : Run) → Inv p r → (v : ℕ) (x : Transaction) → conforming p v ≡ true → MayFile p r v x
    → NoLine r v x
    → Fair p x × LineFact p r.escrow r.signed r.begun v r.tick pending x
may_fact p s r k v x c (open' {i} leaving begun) none =
    let due = ⊎_elim {C = (r.tick + p.delta ≤ open_end p) × (p.leader v ≡ true → r.tick ≡ 0)}
    (λ h. absurd (none h.0 h.1 h.2 (ap purpose h.3))) (λ h. h) (k.duties.opening v i c begun leaving) in (
      (leaving.0, (s.assets i leaving.0).1),
      record {
        leaving = leaving;
        planned = (refl, refl);
        begins = begun;
        first = due.1;
        intime = due.0;
        waits = λ _. ⊎_elim (λ t. vacant (r.escrow i).phase t) (λ f. absurd (unraised f)) (cases_Bool (is_vacant (r.escrow i).phase));
        took = λ n. absurd (n refl);
      },
    )
  where
    unraised : is_vacant (r.escrow i).phase ≡ false → ⊥
    unraised d =
        let h = k.duties.raised i leaving.0 (subst (λ w. conforming p w ≡ true) (sym leaving.1) c) d in
        none h.0 h.1 (h.2 ∙ leaving.1) (ap purpose h.3)
may_fact p s r k v x c (key {i} {route} entering signs) none =
    let due : r.tick + p.delta ≤ key_end p (length route) = ⊎_elim
    (λ h. absurd (none h.0 h.1 h.2 (ap purpose h.3))) (λ h. h) (k.duties.passing v (ends route) i route c signs entering) in
    ((entering.0, tt), record { entering = entering; signs = signs; intime = due; took = λ n. absurd (n refl) })
may_fact p s r k v x c (refund {i} leaving now' held) none =
    ((leaving.0, tt), record { leaving = leaving; due = now'; stays = rw held refl; took = λ n. absurd (n refl) })

-- one more party has begun
module _ (p : Swap) (s : Sound p) (r : Run) (k : Inv p r) (v : ℕ) (c : conforming p v ≡ true) (may : MayBegin p r v (p.leader v)) where
  still : (u : ℕ) → r.begun u ≡ true → put r.begun v true u ≡ true
  still u h = put_case (λ b. b ≡ true) r.begun v true u (λ _. refl) (λ _. h)

  begun_fact : (u f n : ℕ) (x : Transaction) → LineFact p r.escrow r.signed r.begun u f n x
      → LineFact p r.escrow r.signed (put r.begun v true) u f n x
  begun_fact u f n (Open i asset locks) h = record {
    leaving = h.leaving;
    planned = h.planned;
    begins = still u h.begins;
    first = h.first;
    intime = h.intime;
    waits = h.waits;
    took = h.took;
  }
  begun_fact u f n (Key i q) h = h
  begun_fact u f n (Refund i) h = h

  follower : p.leader v ≡ false → entering_stand p r.escrow v ≡ true
  follower e = (subst (λ b. MayBegin p r v b) e may).0

  timely : (b : Bool) → p.leader v ≡ b → (r.tick + p.delta ≤ open_end p) × (p.leader v ≡ true → r.tick ≡ 0)
  timely true e =
      let z : r.tick ≡ 0 = subst (λ b. MayBegin p r v b) e may in
      let w : 1 * p.delta ≤ p.span * p.delta = mul-le-mul_right p.delta (span_some p s) in
      (omega arith, λ _. z)
  timely false e = ((subst (λ b. MayBegin p r v b) e may).1, λ t. absurd (clash (p.leader v) t e))

  pub inv_begin : Inv p (begin v r)
  inv_begin = record {
    facts = record {
      routes = k.facts.routes;
      led = k.facts.led;
      proper = k.facts.proper;
      ranged = k.facts.ranged;
      shut = k.facts.shut;
      held = k.facts.held;
      paid = k.facts.paid;
      returned = k.facts.returned;
      planned = λ i l d e. let h = k.facts.planned i l d e in (h.0, still (p.payer i) h.1);
      late = k.facts.late;
      signs = k.facts.signs;
      signs_led = k.facts.signs_led;
      followed = λ u d e. put_case (λ b. b ≡ true → entering_stand p r.escrow u ≡ true) r.begun v true u
          (λ q _. subst (λ w. entering_stand p r.escrow w ≡ true) (sym q) (follower (subst (λ w. p.leader w ≡ false) q e)))
          (λ _. k.facts.followed u d e);
      leading =
          λ u d e. put_case (λ b. b ≡ false → r.tick ≡ 0) r.begun v true u (λ _ z. absurd (clash true refl z)) (λ _. k.facts.leading u d e);
      revealing = k.facts.revealing;
      relaying = k.facts.relaying;
    };
    lines = record {
      fair = k.lines.fair;
      who = k.lines.who;
      before = k.lines.before;
      waits = k.lines.waits;
      facts = λ n h d. begun_fact (r.line n).filer (r.line n).filed (r.verdict n) (r.line n).transaction (k.lines.facts n h d);
      once = k.lines.once;
    };
    duties = record {
      opening = λ u i d. put_case
          (λ b. b ≡ true → Leaving p u i → HasLine r u (Open i (p.asset i) p.leader)
          ⊎ ((r.tick + p.delta ≤ open_end p) × (p.leader u ≡ true → r.tick ≡ 0)))
          r.begun v true u
          (λ q _ l. inr (subst (λ w. (r.tick + p.delta ≤ open_end p) × (p.leader w ≡ true → r.tick ≡ 0)) (sym q)
          (timely (p.leader v) refl)))
          (λ _ b l. k.duties.opening u i d b l);
      raised = k.duties.raised;
      passing = k.duties.passing;
      refunding = k.duties.refunding;
    };
    books = k.books;
    few = k.few;
  }

-- one more route is signed
pub signs_new : (σ : Signed) (v lock : ℕ) (q : List ℕ) → put σ v (put (σ v) lock (Some q)) v lock ≡ Some q
signs_new σ v lock q = ap (λ f. f lock) (put_same σ v (put (σ v) lock (Some q)) v refl) ∙ put_same (σ v) lock (Some q) lock refl

pub signs_case : (P : Option (List ℕ) → Type 0) (σ : Signed) (v lock : ℕ) (q : List ℕ) (u l : ℕ)
    → (u ≡ v → l ≡ lock → P (Some q)) → P (σ u l) → P (put σ v (put (σ v) lock (Some q)) u l)
signs_case P σ v lock q u l new' old = put_case (λ f. P (f l)) σ v (put (σ v) lock (Some q)) u
    (λ e. put_case P (σ v) lock (Some q) l (λ d. new' e d) (λ _. subst (λ w. P (σ w l)) e old)) (λ _. old)

module _ (p : Swap) (s : Sound p) (r : Run) (k : Inv p r) (v lock : ℕ) (route : List ℕ) (c : conforming p v ≡ true)
    (stood : entering_stand p r.escrow v ≡ true) (unsigned : r.signed v lock ≡ None) where
  kept : (u l : ℕ) (q : List ℕ) → r.signed u l ≡ Some q → put r.signed v (put (r.signed v) lock (Some route)) u l ≡ Some q
  kept u l q h = signs_case (λ o. o ≡ Some q) r.signed v lock route u l
      (λ e d. let z : r.signed u l ≡ None = cc in grind arith) h

  unkept : (u l : ℕ) → put r.signed v (put (r.signed v) lock (Some route)) u l ≡ None → r.signed u l ≡ None
  unkept u l = signs_case (λ o. o ≡ None → r.signed u l ≡ None) r.signed v lock route u l (λ e d _. cc) (λ h. h)

  signed_fact : (u f n : ℕ) (x : Transaction) → LineFact p r.escrow r.signed r.begun u f n x
      → LineFact p r.escrow (put r.signed v (put (r.signed v) lock (Some route))) r.begun u f n x
  signed_fact u f n (Open i asset locks) h = h
  signed_fact u f n (Key i q) h = record { entering = h.entering; signs = kept u (ends q) q h.signs; intime = h.intime; took = h.took }
  signed_fact u f n (Refund i) h = h

-- the route that a party may sign is joined and its suffixes are signed
fresh_way : (p : Swap) (s : Sound p) (r : Run) (k : Inv p r) (v : ℕ) (c : conforming p v ≡ true)
    (stood : entering_stand p r.escrow v ≡ true) (lock : ℕ) (route : List ℕ)
    → r.signed v lock ≡ None → MaySign p r v lock route → Way p (put r.signed v (put (r.signed v) lock (Some route))) v lock route
fresh_way p s r k v c stood lock route unsigned (own leads) = one (λ _. signs_new r.signed v v (v ∷ []))
fresh_way p s r k v c stood lock route unsigned (other {route = q} differs j leaving shows low) =
    let w = k.facts.routes j lock q leaving.0 shows in
    let off : mem v q ≡ false = ⊎_elim (λ t. absurd (some_none _ unsigned (way_signed p w v c t))) (λ f. f) (cases_Bool (mem v q)) in
    way_front p (way_mono p (λ u l o _ h. kept p s r k v lock (v ∷ q) c stood unsigned u l o h) w) v
    (pays_of p j leaving.0 v (p.receiver j) leaving.1 refl) off (signs_new r.signed v lock (v ∷ q))

may_led : (p : Swap) (r : Run) (k : Inv p r) (v lock : ℕ) (route : List ℕ) → MaySign p r v lock route → p.leader lock ≡ true
may_led p r k v lock route (own leads) = leads
may_led p r k v lock route (other {route = q} differs j leaving shows low) = k.facts.led j lock q leaving.0 shows

-- and it can be passed on in time
in_time : (p : Swap) (r : Run) (k : Inv p r) (v : ℕ) (c : conforming p v ≡ true) (stood : entering_stand p r.escrow v ≡ true) (lock : ℕ)
    (route : List ℕ)
    → r.signed v lock ≡ None → MaySign p r v lock route → r.tick + p.delta ≤ key_end p (length route)
in_time p r k v c stood lock route unsigned (own leads) = let h = k.facts.revealing v c leads stood unsigned in omega arith
in_time p r k v c stood lock route unsigned (other {route = q} differs j leaving shows low) =
    let h = k.facts.relaying v lock j q c differs stood leaving shows unsigned in omega arith

module _ (p : Swap) (s : Sound p) (r : Run) (k : Inv p r) (v lock : ℕ) (route : List ℕ) (c : conforming p v ≡ true)
    (stood : entering_stand p r.escrow v ≡ true) (unsigned : r.signed v lock ≡ None) where
  pub inv_sign : MaySign p r v lock route → Inv p (sign v lock route r)
  inv_sign may = record {
    facts = record {
      routes = λ i l q h e. way_mono p (λ u m o _ g. kept p s r k v lock route c stood unsigned u m o g) (k.facts.routes i l q h e);
      led = k.facts.led;
      proper = k.facts.proper;
      ranged = k.facts.ranged;
      shut = k.facts.shut;
      held = k.facts.held;
      paid = k.facts.paid;
      returned = k.facts.returned;
      planned = k.facts.planned;
      late = k.facts.late;
      signs = λ u l q d. signs_case (λ o. o ≡ Some q → Way p (put r.signed v (put (r.signed v) lock (Some route))) u l q
          × (entering_stand p r.escrow u ≡ true))
          r.signed v lock route u l
          (λ a b e. let z : route ≡ q = cc in (
            subst (λ o. Way p (put r.signed v (put (r.signed v) lock (Some route))) u l o) z
                (subst (λ w. Way p (put r.signed v (put (r.signed v) lock (Some route))) w l route) (sym a)
                (subst (λ w. Way p (put r.signed v (put (r.signed v) lock (Some route))) v w route) (sym b)
                (fresh_way p s r k v c stood lock route unsigned may))),
            subst (λ w. entering_stand p r.escrow w ≡ true) (sym a) stood,
          ))
          (λ e. let h = k.facts.signs u l q d e in (way_mono p (λ u m o _ g. kept p s r k v lock route c stood unsigned u m o g) h.0, h.1));
      signs_led = λ u l q d. signs_case (λ o. o ≡ Some q → p.leader l ≡ true) r.signed v lock route u l
          (λ a b _. subst (λ w. p.leader w ≡ true) (sym b) (may_led p r k v lock route may)) (k.facts.signs_led u l q d);
      followed = k.facts.followed;
      leading = k.facts.leading;
      revealing = λ u d e f g. k.facts.revealing u d e f (unkept p s r k v lock route c stood unsigned u u g);
      relaying = λ u l j q d n f g h z. k.facts.relaying u l j q d n f g h (unkept p s r k v lock route c stood unsigned u l z);
    };
    lines = record {
      fair = k.lines.fair;
      who = k.lines.who;
      before = k.lines.before;
      waits = k.lines.waits;
      facts = λ n h d. signed_fact p s r k v lock route c stood unsigned (r.line n).filer (r.line n).filed (r.verdict n)
          (r.line n).transaction (k.lines.facts n h d);
      once = k.lines.once;
    };
    duties = record {
      opening = k.duties.opening;
      raised = k.duties.raised;
      passing =
          λ u l i q d. signs_case (λ o. o ≡ Some q → Entering p u i → HasLine r u (Key i q) ⊎ (r.tick + p.delta ≤ key_end p (length q)))
          r.signed v lock route u l
          (λ a b e _. let z : route ≡ q = cc in inr
          (subst (λ o. r.tick + p.delta ≤ key_end p (length o)) z (in_time p r k v c stood lock route unsigned may)))
          (k.duties.passing u l i q d);
      refunding = k.duties.refunding;
    };
    books = k.books;
    few = k.few;
  }

since : (a b : ℕ) → a ≤ suc b → (suc b ≡ a) ⊎ (a ≤ b)
since a b h = ⊎_elim (λ e. inl e) (λ n. inr (omega arith)) (cases_eq (suc b) a)

-- the clock moves
module _ (p : Swap) (r : Run) (k : Inv p r) (rest : Rested p r) where
  pub inv_tick : Inv p (ticked r)
  inv_tick = record {
    facts = record {
      routes = k.facts.routes;
      led = k.facts.led;
      proper = k.facts.proper;
      ranged = k.facts.ranged;
      shut = k.facts.shut;
      held = k.facts.held;
      paid = k.facts.paid;
      returned = k.facts.returned;
      planned = k.facts.planned;
      late = λ i h e. let g = k.facts.late i h e in omega arith;
      signs = k.facts.signs;
      signs_led = k.facts.signs_led;
      followed = k.facts.followed;
      leading = λ v c l b. absurd (clash (r.begun v) ((rest.done v c).leads l) b);
      revealing = λ v c l e n. absurd ((rest.done v c).reveals l e n);
      relaying = λ v lock j q c d e l o n. absurd ((rest.done v c).relays lock j q d e l o n);
    };
    lines = record {
      fair = k.lines.fair;
      who = k.lines.who;
      before = λ n h. let g = k.lines.before n h in omega arith;
      waits = λ n h e. let g = rest.fresh n h e in omega arith;
      facts = k.lines.facts;
      once = k.lines.once;
    };
    duties = record {
      opening = λ v i c b l. inl ((rest.done v c).opened i l b);
      raised = k.duties.raised;
      passing = λ v lock i q c e l. inl ((rest.done v c).passed lock i q l e);
      refunding = λ v i c l h t. ⊎_elim
          (λ now'. inr now')
          (λ (t' : refund_tick p ≤ r.tick). inl (⊎_elim (λ g. g) (λ e. (rest.done v c).refunds i l e h) (k.duties.refunding v i c l h t')))
          (since (refund_tick p) r.tick t);
    };
    books = k.books;
    few = k.few;
  }
