-- What the conforming parties file in order is a list of small steps, and ends with every party's duty done.
use Rattle.std.proofs.Common.{◌≡◌, ℕ, zero, suc, ◌+◌, ◌<◌, ◌≤◌, Bool, true, false, cond, ◌&&◌, eqb, leb, List, [], ◌∷◌, Some, None, Option, sym, refl, ap, ◌∙◌, subst, ⊎_elim, arith}
use Rattle.protocol.proofs.Basics.{put_case, put_same, put_other}
use Rattle.protocol.proofs.Invariants.{Signed, Way, one, more, LineFact, Inv}
use Rattle.protocol.proofs.Keeps.{inv_step, inv_steps}
use Rattle.protocol.proofs.Room.{journal_room}
use Rattle.protocol.proofs.Standing.{held, party}
use Rattle.protocol.proofs.Ways.{way_ends, way_party, none_of}
use Rattle.protocol.specs.Calls.{fresh}
use Rattle.protocol.specs.Parties.{as_line, file, enter, begin, sign, open_legs, pass_key, refund_legs, shown, opens, reveals, relays, relayed, relay, refunds, opening, revealing, relaying, refunding, turn, turns}
use Rattle.protocol.specs.State.{Held, is_held, Escrow, Transaction, Open, Key, Refund, Run, conforming, entering_stand, open_end, refund_tick}
use Rattle.protocol.specs.Steps.{Purpose, purpose, HasLine, NoLine, Entering, Leaving, MayBegin, MaySign, own, other, MayFile, open', key, refund, Done, Rested, Step, begins, signs, files, Steps, stop, then}
use Rattle.protocol.specs.Tables.{put, each, lowest, or_else}
use Rattle.protocol.specs.Verdicts.{pending, ends}
use Rattle.std.proofs.lemmas.Bool.{both_ways, eqb-true, eqb-false, eq-eqb, leb-true, le-leb, ne_eqb, cases_eq, cases_lt, and_parts, and_from, cases_Bool, not-true, not_from_false, cond_both, cond-true, cond-false, lt-ltb, true≢false}
use Rattle.swap.specs.Limits.{max_lines}
use Rattle.swap.specs.Swaps.{Swap, Sound}

-- what holds at first and is carried on by each turn holds at the end
pub each_ind : {X : Type 0} (P : ℕ → X → Type 0) (f : ℕ → X → X) (x : X) (n : ℕ) → P 0 x
    → ((k : ℕ) (y : X) → k < n → P k y → P (suc k) (f k y)) → P n (each n f x)
unfolding each
each_ind P f x zero start step = start
each_ind P f x (suc n) start step = step n (each n f x) (omega arith) (each_ind P f x n start (λ k y h. step k y (omega arith)))

-- what `lowest` finds: the first number below n that has something
abbrev Found : {X : Type 0} → ℕ → (ℕ → Option X) → Option X → Type 0
Found n f (Some x) = (j : ℕ) × (j < n) × (f j ≡ Some x) × ((k : ℕ) → k < j → f k ≡ None)
Found n f None = (k : ℕ) → k < n → f k ≡ None

lowest_is : {X : Type 0} (n : ℕ) (f : ℕ → Option X) → Found n f (lowest n f)
unfolding lowest
lowest_is zero f = λ k h. absurd (omega arith)
lowest_is {X} (suc n) f = go (lowest n f) (lowest_is n f) (f n) refl
  where
    go : (a : Option X) → Found n f a → (b : Option X) → f n ≡ b → Found (suc n) f (or_else a b)
    go (Some x) h b e = (h.0, omega arith, h.2, h.3)
    go None h (Some y) e = (n, omega arith, e, h)
    go None h None e = λ k l. ⊎_elim (λ d. rw d e) (λ d. h k (omega arith)) (cases_eq k n)

-- Lines are added at the end, and wait.
pub record Longer (r s : Run) : Type 0 where
  pub count : r.count ≤ s.count
  pub old : (n : ℕ) → n < r.count → (s.line n ≡ r.line n) × (s.verdict n ≡ r.verdict n)
  pub new : (n : ℕ) → r.count ≤ n → n < s.count → (s.verdict n ≡ pending) × ((s.line n).filed ≡ s.tick)

pub longer_has : {r s : Run} → Longer r s → (u : ℕ) (x : Transaction) → HasLine r u x → HasLine s u x
longer_has {r} {s} l u x h =
    let e = (l.old h.0 h.1).0 in
    let c = l.count in
    (h.0, omega arith, ap (λ y. y.filer) e ∙ h.2, ap (λ y. y.transaction) e ∙ h.3)

-- What party v can change: nothing of the tick and the escrows, of itself only to begin and to sign, and of others nothing.
pub record Frame (v : ℕ) (r s : Run) : Type 0 where
  pub tick : s.tick ≡ r.tick
  pub escrow : s.escrow ≡ r.escrow
  pub longer : Longer r s
  pub begun : (u : ℕ) → r.begun u ≡ true → s.begun u ≡ true
  pub signed : (u lock : ℕ) (q : List ℕ) → r.signed u lock ≡ Some q → s.signed u lock ≡ Some q
  pub others : (u : ℕ) → (u ≡ v → ⊥) → (s.begun u ≡ r.begun u) × ((lock : ℕ) → s.signed u lock ≡ r.signed u lock)
      × ((x : Transaction) → NoLine r u x → NoLine s u x)

pub same_longer : (r : Run) → Longer r r
same_longer r = record { count = omega arith; old = λ n h. (refl, refl); new = λ n h k. absurd (omega arith) }

pub frame_same : (v : ℕ) (r : Run) → Frame v r r
frame_same v r = record {
  tick = refl;
  escrow = refl;
  longer = same_longer r;
  begun = λ u b. b;
  signed = λ u lock q b. b;
  others = λ u d. (refl, λ lock. refl, λ x n. n);
}

longer_then : (r s t : Run) → Longer r s → Longer s t → t.tick ≡ s.tick → Longer r t
longer_then r s t f g e =
    let a = f.count in
    let b = g.count in
    record {
      count = omega arith;
      old = λ n h. let y = f.old n h in let z = g.old n (omega arith) in (z.0 ∙ y.0, z.1 ∙ y.1);
      new = λ n h k. ⊎_elim
          (λ l. let y = f.new n h l in let z = g.old n l in (z.1 ∙ y.0, ap (λ x. x.filed) z.0 ∙ y.1 ∙ sym e))
          (λ l. g.new n l k)
          (cases_lt n s.count);
    }

frame_then : (v : ℕ) (r s t : Run) → Frame v r s → Frame v s t → Frame v r t
frame_then v r s t f g = record {
  tick = g.tick ∙ f.tick;
  escrow = g.escrow ∙ f.escrow;
  longer = longer_then r s t f.longer g.longer g.tick;
  begun = λ u b. g.begun u (f.begun u b);
  signed = λ u lock q b. g.signed u lock q (f.signed u lock q b);
  others = λ u d. let a = f.others u d in let b = g.others u d in (b.0 ∙ a.0, λ lock. b.1 lock ∙ a.1 lock, λ x n. b.2 x (a.2 x n));
}

frame_begin : (v : ℕ) (r : Run) → Frame v r (begin v r)
frame_begin v r = record {
  tick = refl;
  escrow = refl;
  longer = record { count = omega arith; old = λ n h. (refl, refl); new = λ n h k. absurd (omega arith) };
  begun = λ u b. put_case (λ w. w ≡ true) r.begun v true u (λ _. refl) (λ _. b);
  signed = λ u lock q b. b;
  others = λ u d. (put_other r.begun v true u d, λ lock. refl, λ x n. n);
}

frame_sign : (v lock : ℕ) (route : List ℕ) (r : Run) → r.signed v lock ≡ None → Frame v r (sign v lock route r)
frame_sign v lock route r e = record {
  tick = refl;
  escrow = refl;
  longer = record { count = omega arith; old = λ n h. (refl, refl); new = λ n h k. absurd (omega arith) };
  begun = λ u b. b;
  signed = λ u l q b. put_case (λ f. f l ≡ Some q) r.signed v (put (r.signed v) lock (Some route)) u
      (λ d. put_case (λ o. o ≡ Some q) (r.signed v) lock (Some route) l
      (λ c. grind arith)
      (λ _. rw d at b))
      (λ _. b);
  others = λ u d. (refl, λ l. ap (λ f. f l) (put_other r.signed v (put (r.signed v) lock (Some route)) u d), λ x n. n);
}

pub frame_file : (v : ℕ) (x : Transaction) (r : Run) → Frame v r (file v x r)
frame_file v x r = record {
  tick = refl;
  escrow = refl;
  longer = record {
    count = omega arith;
    old = λ n h. (put_other r.line r.count (as_line v x r) n (omega arith), put_other r.verdict r.count pending n (omega arith));
    new = λ n h k. let e : n ≡ r.count = omega arith in
        (put_same r.verdict r.count pending n e, ap (λ y. y.filed) (put_same r.line r.count (as_line v x r) n e));
  };
  begun = λ u b. b;
  signed = λ u lock q b. b;
  others = λ u d. (
    refl,
    λ lock. refl,
    λ y none n h. put_case (λ l. l.filer ≡ u → purpose l.transaction ≡ purpose y → ⊥) r.line r.count (as_line v x r) n
        (λ _ a. absurd (d (sym a)))
        (λ c. none n (omega arith)),
  );
}

-- The tick's deliveries are done: nothing waits Δ ticks, no line is of this tick, and what the parties took up is filed.
pub record Heard (p : Swap) (r : Run) : Type 0 where
  pub fresh : (n : ℕ) → n < r.count → r.verdict n ≡ pending → r.tick < (r.line n).filed + p.delta
  pub before : (n : ℕ) → n < r.count → (r.line n).filed < r.tick
  pub opened : (v i : ℕ) → conforming p v ≡ true → Leaving p v i → r.begun v ≡ true → HasLine r v (Open i (p.asset i) p.leader)
  pub passed : (v lock i : ℕ) (route : List ℕ) → conforming p v ≡ true → Entering p v i → r.signed v lock ≡ Some route
      → HasLine r v (Key i route)

-- what lines of a conforming party tell
open_begun : (p : Swap) (escrow : ℕ → Escrow) (σ : Signed) (begun : ℕ → Bool) (v f n i : ℕ) (x : Transaction)
    → LineFact p escrow σ begun v f n x → purpose x ≡ Purpose.opens i → begun v ≡ true
open_begun p escrow σ begun v f n i (Open k asset locks) l e = l.begins
open_begun p escrow σ begun v f n i (Key k q) l e = grind arith
open_begun p escrow σ begun v f n i (Refund k) l e = grind arith

key_signed : (p : Swap) (escrow : ℕ → Escrow) (σ : Signed) (begun : ℕ → Bool) (v f n i lock : ℕ) (x : Transaction)
    → LineFact p escrow σ begun v f n x → purpose x ≡ Purpose.keys i lock → σ v lock ≡ None → ⊥
key_signed p escrow σ begun v f n i lock (Open k asset locks) l e d = grind arith
key_signed p escrow σ begun v f n i lock (Key k q) l e d =
    let a : ends q ≡ lock = cc in
    let b : σ v lock ≡ Some q = rw a at l.signs in
    grind arith
key_signed p escrow σ begun v f n i lock (Refund k) l e d = grind arith

refund_due : (p : Swap) (escrow : ℕ → Escrow) (σ : Signed) (begun : ℕ → Bool) (v f n i : ℕ) (x : Transaction)
    → LineFact p escrow σ begun v f n x → purpose x ≡ Purpose.refunds i → f ≡ refund_tick p
refund_due p escrow σ begun v f n i (Open k asset locks) l e = grind arith
refund_due p escrow σ begun v f n i (Key k q) l e = grind arith
refund_due p escrow σ begun v f n i (Refund k) l e = l.due

-- a line of a conforming party, under its own name
line_fact : (p : Swap) (r : Run) → Inv p r → (v : ℕ) → conforming p v ≡ true → (n : ℕ) → n < r.count → (r.line n).filer ≡ v
    → LineFact p r.escrow r.signed r.begun v (r.line n).filed (r.verdict n) (r.line n).transaction
line_fact p r k v c n h e =
    subst (λ u. LineFact p r.escrow r.signed r.begun u (r.line n).filed (r.verdict n) (r.line n).transaction) e
    (k.lines.facts n h (rw e c))

no_open : (p : Swap) (r : Run) → Inv p r → (v i asset : ℕ) (locks : ℕ → Bool) → conforming p v ≡ true → r.begun v ≡ false
    → NoLine r v (Open i asset locks)
no_open p r k v i asset locks c b n h e d =
    both_ways (r.begun v) b (open_begun p r.escrow r.signed r.begun v (r.line n).filed (r.verdict n) i (r.line n).transaction
    (line_fact p r k v c n h e) d)

no_key : (p : Swap) (r : Run) → Inv p r → (v i : ℕ) (q : List ℕ) → conforming p v ≡ true → r.signed v (ends q) ≡ None → NoLine r v (Key i q)
no_key p r k v i q c b n h e d =
    key_signed p r.escrow r.signed r.begun v (r.line n).filed (r.verdict n) i (ends q) (r.line n).transaction
    (line_fact p r k v c n h e) d b

no_refund : (p : Swap) (r : Run) → Inv p r → Heard p r → (v i : ℕ) → conforming p v ≡ true → r.tick ≡ refund_tick p → NoLine r v (Refund i)
no_refund p r k w v i c t n h e d =
    let f = refund_due p r.escrow r.signed r.begun v (r.line n).filed (r.verdict n) i (r.line n).transaction
    (line_fact p r k v c n h e) d in
    let g = w.before n h in
    let a : (r.line n).filed ≡ r.tick = f ∙ sym t in
    omega (arith, a, g)

-- a lock that a leg shows open is a party's
way_ends_front : (p : Swap) {σ : Signed} {y lock : ℕ} {r : List ℕ} → Way p σ y lock r → (x : ℕ) → ends (x ∷ r) ≡ lock
way_ends_front p (one h) x = refl
way_ends_front p (more a b h w) x = way_ends p w

-- where the journal has room, a line is added
pub entered : (v : ℕ) (x : Transaction) (r : Run) → r.count < max_lines → enter v x r ≡ file v x r
unfolding enter
entered v x r h = cond-true _ (file v x r) r (lt-ltb r.count max_lines h)

module _ (p : Swap) (v : ℕ) where
  -- one small step of party v
  pub data Act (r : Run) : Run → Type 0 where
    began : r.begun v ≡ false → MayBegin p r v (p.leader v) → Act r (begin v r)
    signed : (lock : ℕ) (route : List ℕ) → entering_stand p r.escrow v ≡ true → r.signed v lock ≡ None → MaySign p r v lock route
        → Act r (sign v lock route r)
    filed : (x : Transaction) → MayFile p r v x → NoLine r v x → Act r (file v x r)

  pub data Acts (r : Run) : Run → Type 0 where
    still : Acts r r
    acted : {s t : Run} → Acts r s → Act s t → Acts r t

  acts_then : {r s t : Run} → Acts r s → Acts s t → Acts r t
  acts_then a still = a
  acts_then a (acted b c) = acted (acts_then a b) c

  act_step : conforming p v ≡ true → {r s : Run} → Act r s → Step p r s
  act_step c {r} (began b m) = begins r v c b m
  act_step c {r} (signed lock route e n m) = signs r v lock route c e n m
  act_step c {r} (filed x m n) = files r v x c m n

  acts_steps : conforming p v ≡ true → {o r s : Run} → Steps p o r → Acts r s → Steps p o s
  acts_steps c k still = k
  acts_steps c k (acted a b) = then (acts_steps c k a) (act_step c b)

  act_frame : {r s : Run} → Act r s → Frame v r s
  act_frame {r} (began b m) = frame_begin v r
  act_frame {r} (signed lock route e n m) = frame_sign v lock route r n
  act_frame {r} (filed x m n) = frame_file v x r

  pub acts_frame : {r s : Run} → Acts r s → Frame v r s
  acts_frame {r} still = frame_same v r
  acts_frame {r} (acted {s} {t} a b) = frame_then v r s t (acts_frame a) (act_frame b)

  -- what v took up is filed, and it has not asked for refunds in this tick
  record Clear (r : Run) : Type 0 where
    opened : (i : ℕ) → Leaving p v i → r.begun v ≡ true → HasLine r v (Open i (p.asset i) p.leader)
    passed : (lock i : ℕ) (route : List ℕ) → Entering p v i → r.signed v lock ≡ Some route → HasLine r v (Key i route)
    unrefunded : (i : ℕ) → r.tick ≡ refund_tick p → NoLine r v (Refund i)

  -- v has filed x i for each i below k that passes the test
  record Filed (x : ℕ → Transaction) (test : ℕ → Bool) (r : Run) (k : ℕ) (s : Run) : Type 0 where
    acts : Acts r s
    begun : s.begun ≡ r.begun
    signed : s.signed ≡ r.signed
    has : (i : ℕ) → i < k → test i ≡ true → HasLine s v (x i)
    none : (y : Transaction) → ((i : ℕ) → i < k → purpose (x i) ≡ purpose y → ⊥) → NoLine r v y → NoLine s v y

  filed_more : (x : ℕ → Transaction) (test : ℕ → Bool) (r : Run) (k : ℕ) (s : Run) → MayFile p s v (x k) → NoLine s v (x k)
      → Filed x test r k s → Filed x test r (suc k) (file v (x k) s)
  filed_more x test r k s m n f = record {
    acts = acted f.acts (filed (x k) m n);
    begun = f.begun;
    signed = f.signed;
    has = λ i h e. ⊎_elim
        (λ d. let l = put_same s.line s.count (as_line v (x k) s) s.count refl in
        (s.count, omega arith, ap (λ y. y.filer) l, ap (λ y. y.transaction) l ∙ ap x (sym d)))
        (λ d. longer_has (frame_file v (x k) s).longer v (x i) (f.has i (omega arith) e))
        (cases_eq i k);
    none = λ y apart none n h. put_case (λ l. l.filer ≡ v → purpose l.transaction ≡ purpose y → ⊥) s.line s.count (as_line v (x k) s) n
        (λ _ _ e. apart k (omega arith) e)
        (λ d. f.none y (λ i l. apart i (omega arith)) none n (omega arith));
  }

  filed_pass : (x : ℕ → Transaction) (test : ℕ → Bool) (r : Run) (k : ℕ) (s : Run) → test k ≡ false → Filed x test r k s
      → Filed x test r (suc k) s
  filed_pass x test r k s t f = record {
    acts = f.acts;
    begun = f.begun;
    signed = f.signed;
    has = λ i h e. ⊎_elim (λ d. absurd (both_ways (test k) t (rw d at e))) (λ d. f.has i (omega arith) e) (cases_eq i k);
    none = λ y apart. f.none y (λ i l. apart i (omega arith));
  }

  -- filing over the legs
  filing : (x : ℕ → Transaction) (test : ℕ → Bool) (f : ℕ → Run → Run) (r : Run) (n : ℕ)
      → ((k : ℕ) (s : Run) → s.escrow ≡ r.escrow → f k s ≡ cond (test k) (enter v (x k) s) s)
      → ((s : Run) (y : Transaction) → Acts r s → MayFile p s v y → NoLine s v y → s.count < max_lines)
      → ((i k : ℕ) → purpose (x i) ≡ purpose (x k) → i ≡ k)
      → ((k : ℕ) → k < n → test k ≡ true → (s : Run) → s.tick ≡ r.tick → s.escrow ≡ r.escrow → s.begun ≡ r.begun → s.signed ≡ r.signed
      → MayFile p s v (x k))
      → ((k : ℕ) → NoLine r v (x k))
      → Filed x test r n (each n f r)
  filing x test f r n same room apart may none = each_ind (Filed x test r) f r n
      (record { acts = still; begun = refl; signed = refl; has = λ i h. absurd (omega arith); none = λ y _ m. m })
      (λ k s h d. let a = acts_frame d.acts in
      subst (Filed x test r (suc k)) (sym (same k s a.escrow))
      (cond_both (test k) (enter v (x k) s) s (Filed x test r (suc k))
      (λ t. let m = may k h t s a.tick a.escrow d.begun d.signed in
      let o : NoLine s v (x k) = d.none (x k) (λ i l e. let q = apart i k e in omega arith) (none k) in
      subst (Filed x test r (suc k)) (sym (entered v (x k) s (room s (x k) d.acts m o))) (filed_more x test r k s m o d))
      (λ t. filed_pass x test r k s t d)))

  -- what a rule leaves: small steps of v, and what it took up is filed
  record Block (r s : Run) : Type 0 where
    acts : Acts r s
    clear : Clear s

  -- the parts of `Done` that last whoever acts
  abbrev Leads : Run → Type 0
  Leads r = p.leader v ≡ true → r.begun v ≡ true

  abbrev Follows : Run → Type 0
  Follows r = p.leader v ≡ false → r.begun v ≡ false → entering_stand p r.escrow v ≡ true → r.tick + p.delta ≤ open_end p → ⊥

  abbrev Reveals : Run → Type 0
  Reveals r = p.leader v ≡ true → entering_stand p r.escrow v ≡ true → r.signed v v ≡ None → ⊥

  abbrev Relays : Run → ℕ → Type 0
  Relays r lock = (j : ℕ) (route : List ℕ) → (lock ≡ v → ⊥) → entering_stand p r.escrow v ≡ true → Leaving p v j
      → (r.escrow j).opened lock ≡ Some route → r.signed v lock ≡ None → ⊥

  abbrev Refunds : Run → Type 0
  Refunds r = (i : ℕ) → Leaving p v i → r.tick ≡ refund_tick p → (r.escrow i).phase ≡ Held → HasLine r v (Refund i)

  module _ (u : ℕ) (r s : Run) (f : Frame u r s) where
    none_before : (w lock : ℕ) → s.signed w lock ≡ None → r.signed w lock ≡ None
    none_before w lock e = go (r.signed w lock) refl
      where
        go : (o : Option (List ℕ)) → r.signed w lock ≡ o → o ≡ None
        go None d = refl
        go (Some q) d = let g = f.signed w lock q d in grind arith

    unbegun_before : (w : ℕ) → s.begun w ≡ false → r.begun w ≡ false
    unbegun_before w e = go (r.begun w) refl
      where
        go : (b : Bool) → r.begun w ≡ b → b ≡ false
        go false d = refl
        go true d = absurd (both_ways (s.begun w) e (f.begun w d))

    stand_before : (w : ℕ) → entering_stand p s.escrow w ≡ true → entering_stand p r.escrow w ≡ true
    stand_before w e = sym (ap (λ g. entering_stand p g w) f.escrow) ∙ e

    leads_on : Leads r → Leads s
    leads_on h l = f.begun v (h l)

    follows_on : Follows r → Follows s
    follows_on h l b e t = let g = f.tick in h l (unbegun_before v b) (stand_before v e) (omega arith)

    reveals_on : Reveals r → Reveals s
    reveals_on h l e n = h l (stand_before v e) (none_before v v n)

    relays_on : (lock : ℕ) → Relays r lock → Relays s lock
    relays_on lock h j route d e l o n =
        h j route d (stand_before v e) l (sym (ap (λ g. (g j).opened lock) f.escrow) ∙ o) (none_before v lock n)

    refunds_on : Refunds r → Refunds s
    refunds_on h i l t e = longer_has f.longer v (Refund i) (h i l (sym f.tick ∙ t) (sym (ap (λ g. (g i).phase) f.escrow) ∙ e))

  module _ (c : conforming p v ≡ true) (sound : Sound p) where
    acts_inv : {r s : Run} → Inv p r → Acts r s → Inv p s
    acts_inv {r} {s} k a = inv_steps p sound r s k (acts_steps c (stop r) a)

    -- the journal has room for what v may file
    room_next : {r : Run} → Inv p r → (s : Run) (x : Transaction) → Acts r s → MayFile p s v x → NoLine s v x → s.count < max_lines
    room_next k s x a m n = journal_room p sound (file v x s) (inv_step p sound s (file v x s) (acts_inv k a) (files s v x c m n))

    open_block : (r : Run) → Inv p r → Clear r → r.begun v ≡ false → MayBegin p r v (p.leader v)
        → Block r (open_legs p v r) × ((open_legs p v r).begun v ≡ true)
    unfolding open_legs
    open_block r k q b m =
        let x : ℕ → Transaction = λ i. Open i (p.asset i) p.leader in
        let s : Run = begin v r in
        let f : ℕ → Run → Run = λ i t. cond (eqb (p.payer i) v) (enter v (x i) t) t in
        let yes' : s.begun v ≡ true = put_same r.begun v true v refl in
        let d : Filed x (λ i. eqb (p.payer i) v) s p.legs (each p.legs f s) =
        filing x (λ i. eqb (p.payer i) v) f s p.legs (λ i t _. refl) (room_next (acts_inv k (acted still (began b m)))) (λ i j e. cc)
        (λ i h e t _ _ g _. open' (h, eqb-true (p.payer i) v e) (ap (λ w. w v) g ∙ yes'))
        (λ i. no_open p r k v i (p.asset i) p.leader c b) in
        let a : Acts r (each p.legs f s) = acts_then (acted still (began b m)) d.acts in
        let w = acts_frame a in (
          record {
            acts = a;
            clear = record {
              opened = λ i l _. d.has i l.0 (eq-eqb (p.payer i) v l.1);
              passed =
                  λ lock i route l e. longer_has w.longer v (Key i route) (q.passed lock i route l (sym (ap (λ g. g v lock) d.signed) ∙ e));
              unrefunded =
                  λ i t. d.none (Refund i) (λ j h e. grind arith) (q.unrefunded i (sym w.tick ∙ t));
            };
          },
          ap (λ g. g v) d.begun ∙ yes',
        )

    pass_block : (r : Run) → Inv p r → Clear r → (lock : ℕ) (route : List ℕ) → entering_stand p r.escrow v ≡ true → r.signed v lock ≡ None
        → MaySign p r v lock route
        → ends route ≡ lock → Block r (pass_key p v lock route r) × ((pass_key p v lock route r).signed v lock ≡ Some route)
    unfolding pass_key
    pass_block r k q lock route st n m en =
        let x : ℕ → Transaction = λ i. Key i route in
        let s : Run = sign v lock route r in
        let f : ℕ → Run → Run = λ i t. cond (eqb (p.receiver i) v) (enter v (x i) t) t in
        let row : s.signed v ≡ put (r.signed v) lock (Some route) = put_same r.signed v (put (r.signed v) lock (Some route)) v refl in
        let yes' : s.signed v lock ≡ Some route = ap (λ g. g lock) row ∙ put_same (r.signed v) lock (Some route) lock refl in
        let d : Filed x (λ i. eqb (p.receiver i) v) s p.legs (each p.legs f s) =
        filing x (λ i. eqb (p.receiver i) v) f s p.legs (λ i t _. refl) (room_next (acts_inv k (acted still (signed lock route st n m))))
        (λ i j e. cc)
        (λ i h e t _ _ _ g. key (h, eqb-true (p.receiver i) v e) (ap (λ w. w v (ends route)) g ∙ ap (s.signed v) en ∙ yes'))
        (λ i. no_key p r k v i route c (ap (r.signed v) en ∙ n)) in
        let a : Acts r (each p.legs f s) = acts_then (acted still (signed lock route st n m)) d.acts in
        let w = acts_frame a in (
          record {
            acts = a;
            clear = record {
              opened = λ i l e. longer_has w.longer v (Open i (p.asset i) p.leader) (q.opened i l (sym (ap (λ g. g v) d.begun) ∙ e));
              passed = λ l i rt en' e.
                  let here : put (r.signed v) lock (Some route) l ≡ Some rt =
                  sym (ap (λ g. g l) row) ∙ sym (ap (λ g. g v l) d.signed) ∙ e in
                  put_case (λ o. o ≡ Some rt → HasLine (each p.legs f s) v (Key i rt)) (r.signed v) lock (Some route) l
                  (λ _ o. let z : route ≡ rt = cc in subst (λ y. HasLine (each p.legs f s) v (Key i y)) z
                  (d.has i en'.0 (eq-eqb (p.receiver i) v en'.1)))
                  (λ _ o. longer_has w.longer v (Key i rt) (q.passed l i rt en' o)) here;
              unrefunded =
                  λ i t. d.none (Refund i) (λ j h e. grind arith) (q.unrefunded i (sym w.tick ∙ t));
            };
          },
          ap (λ g. g v lock) d.signed ∙ yes',
        )

    refund_block : (r : Run) → Inv p r → Clear r → r.tick ≡ refund_tick p
        → Filed (λ i. Refund i) (λ i. eqb (p.payer i) v && is_held (r.escrow i).phase) r p.legs (refund_legs p v r)
    unfolding refund_legs
    refund_block r k q t =
        filing (λ i. Refund i) (λ i. eqb (p.payer i) v && is_held (r.escrow i).phase)
        (λ i s. cond (eqb (p.payer i) v && is_held (s.escrow i).phase) (enter v (Refund i) s) s) r p.legs
        (λ i s e. ap (λ g. cond (eqb (p.payer i) v && is_held (g i).phase) (enter v (Refund i) s) s) e)
        (room_next k)
        (λ i j e. cc)
        (λ i h e s tick escrow _ _. let a = and_parts (eqb (p.payer i) v) (is_held (r.escrow i).phase) e in
        refund (h, eqb-true (p.payer i) v a.0) (tick ∙ t) (ap (λ g. (g i).phase) escrow ∙ held (r.escrow i).phase a.1))
        (λ i. q.unrefunded i t)

    -- 1, 2
    may_begin : (r : Run) (l : Bool) → cond l (eqb r.tick 0) (entering_stand p r.escrow v && leb (r.tick + p.delta) (open_end p)) ≡ true
        → MayBegin p r v l
    may_begin r true e = eqb-true r.tick 0 e
    may_begin r false e = let a = and_parts (entering_stand p r.escrow v) (leb (r.tick + p.delta) (open_end p)) e
        in (a.0, leb-true (r.tick + p.delta) (open_end p) a.1)

    begin_may : (r : Run) (l : Bool) → MayBegin p r v l
        → cond l (eqb r.tick 0) (entering_stand p r.escrow v && leb (r.tick + p.delta) (open_end p)) ≡ true
    begin_may r true e = eq-eqb r.tick 0 e
    begin_may r false e =
        and_from (entering_stand p r.escrow v) (leb (r.tick + p.delta) (open_end p)) e.0 (le-leb (r.tick + p.delta) (open_end p) e.1)

    -- a rule that does not apply leaves nothing to do
    opens_not : (r : Run) → opens p v r ≡ false → r.begun v ≡ false → MayBegin p r v (p.leader v) → ⊥
    opens_not r e b m = both_ways (opens p v r) e (and_from _ _ (not_from_false _ b) (begin_may r (p.leader v) m))

    abbrev Opened : Run → Run → Type 0
    Opened r s = Block r s × Leads s × Follows s

    opening_rule : (r : Run) → Inv p r → Clear r → Opened r (opening p v r)
    unfolding opening
    opening_rule r k q = cond_both (opens p v r) (open_legs p v r) r (Opened r)
        (λ e. let a = and_parts _ _ e in
        let d = open_block r k q (not-true _ a.0) (may_begin r (p.leader v) a.1) in
        (d.0, λ _. d.1, λ _ b _ _. both_ways _ b d.1))
        (λ e. (
          record { acts = still; clear = q },
          (λ l. ⊎_elim (λ b. b) (λ b. absurd (opens_not r e b (rw l (k.facts.leading v c l b)))) (cases_Bool (r.begun v))),
          λ l b st t. opens_not r e b (rw l (st, t)),
        ))

    -- 3
    abbrev Revealed : Run → Run → Type 0
    Revealed r s = Block r s × Reveals s

    revealing_rule : (r : Run) → Inv p r → Clear r → Revealed r (revealing p v r)
    unfolding revealing
    revealing_rule r k q = cond_both (reveals p v r) (pass_key p v v (v ∷ []) r) r (Revealed r)
        (λ e. let a = and_parts _ _ e in let b = and_parts _ _ a.0 in
        let d = pass_block r k q v (v ∷ []) b.1 (none_of (r.signed v v) (not-true _ a.1)) (own b.0) refl in
        (d.0, λ _ _ n. let g = d.1 in grind arith))
        (λ e. (
          record { acts = still; clear = q },
          λ l st n. both_ways (reveals p v r) e (and_from _ _ (and_from _ _ l st) (rw n refl)),
        ))

    -- 4
    shown_some : (b : Bool) (o : Option (List ℕ)) (q : List ℕ) → cond b o None ≡ Some q → (b ≡ true) × (o ≡ Some q)
    shown_some true o q e = (refl, e)
    shown_some false o q e = grind arith

    abbrev Relayed : Run → ℕ → Run → Type 0
    Relayed r lock s = Block r s × Relays s lock

    relayed_rule : (r : Run) → Inv p r → Clear r → (lock : ℕ) → relays p v lock r ≡ true → (o : Option (List ℕ))
        → Found p.legs (λ i. cond (eqb (p.payer i) v) ((r.escrow i).opened lock) None) o → Relayed r lock (relayed p v lock o r)
    relayed_rule r k q lock e None h = (
      record { acts = still; clear = q },
      λ j route _ _ l o _. let a = h j l.0 in let b = eq-eqb (p.payer j) v l.1 in
          let g : (r.escrow j).opened lock ≡ None = rw b at a in
          grind arith,
    )
    relayed_rule r k q lock e (Some route) h =
        let a = and_parts _ _ e in let b = and_parts _ _ a.0 in
        let j = h.0 in
        let y = shown_some (eqb (p.payer j) v) ((r.escrow j).opened lock) route h.2 in
        let w = k.facts.routes j lock route h.1 y.1 in
        let d = pass_block r k q lock (v ∷ route) a.1 (none_of (r.signed v lock) (not-true _ b.1))
        (other (eqb-false lock v (not-true _ b.0)) j (h.1, eqb-true (p.payer j) v y.0) y.1
        (λ i l m. let g = h.3 i l in rw (eq-eqb (p.payer i) v m) at g))
        (way_ends_front p w v) in
        (d.0, λ _ _ _ _ _ _ n. let g = d.1 in grind arith)

    relay_rule : (r : Run) → Inv p r → Clear r → (lock : ℕ) → Relayed r lock (relay p v lock r)
    unfolding relay shown
    relay_rule r k q lock = cond_both (relays p v lock r)
        (relayed p v lock (lowest p.legs (λ i. cond (eqb (p.payer i) v) ((r.escrow i).opened lock) None)) r) r (Relayed r lock)
        (λ e. relayed_rule r k q lock e _ (lowest_is p.legs (λ i. cond (eqb (p.payer i) v) ((r.escrow i).opened lock) None)))
        (λ e. (
          record { acts = still; clear = q },
          λ j route d st l o n. both_ways (relays p v lock r) e
              (and_from _ _ (and_from _ _ (not_from_false _ (ne_eqb lock v d)) (rw n refl)) st),
        ))

    relaying_rule : (r : Run) → Inv p r → Clear r → Block r (relaying p v r) × ((lock : ℕ) → Relays (relaying p v r) lock)
    unfolding relaying
    relaying_rule r k q =
        let s : Run = each p.parties (relay p v) r in
        let d : Block r s × ((lock : ℕ) → lock < p.parties → Relays s lock) =
        each_ind (λ n t. Block r t × ((lock : ℕ) → lock < n → Relays t lock)) (relay p v) r p.parties
        (record { acts = still; clear = q }, λ lock h. absurd (omega arith))
        (λ n t h y. let g = relay_rule t (acts_inv k y.0.acts) y.0.clear n in (
          record { acts = acts_then y.0.acts g.0.acts; clear = g.0.clear },
          λ lock l. ⊎_elim
              (λ e. subst (Relays (relay p v n t)) (sym e) g.1)
              (λ e. relays_on v t (relay p v n t) (acts_frame g.0.acts) lock (y.1 lock (omega arith)))
              (cases_eq lock n),
        )) in (
          d.0,
          λ lock j route e st l o n.
              let i = acts_inv k d.0.acts in
              d.1 lock (way_party p sound (i.facts.routes j lock route l.0 o) (sound.exist j l.0).1) j route e st l o n,
        )

    -- 5
    refunding_rule : (r : Run) → Inv p r → Clear r
        → Acts r (refunding p v r) × ((refunding p v r).begun v ≡ r.begun v)
        × ((lock : ℕ) → (refunding p v r).signed v lock ≡ r.signed v lock) × Refunds (refunding p v r)
    unfolding refunding
    refunding_rule r k q = cond_both (refunds p v r) (refund_legs p v r) r
        (λ s. Acts r s × (s.begun v ≡ r.begun v) × ((lock : ℕ) → s.signed v lock ≡ r.signed v lock) × Refunds s)
        (λ e. let d = refund_block r k q (eqb-true r.tick (refund_tick p) e) in
        let f = acts_frame d.acts in (
          d.acts,
          ap (λ g. g v) d.begun,
          λ lock. ap (λ g. g v lock) d.signed,
          λ i l t h. d.has i l.0 (and_from (eqb (p.payer i) v) (is_held (r.escrow i).phase) (eq-eqb (p.payer i) v l.1)
              (ap (λ g. is_held (g i).phase) (sym f.escrow) ∙ ap is_held h)),
        ))
        (λ e. (still, refl, λ _. refl, λ i l t h. absurd (eqb-false r.tick (refund_tick p) e t)))

    turn_rule : (r : Run) → Inv p r → Clear r → Acts r (turn p v r) × Done p (turn p v r) v
    unfolding turn
    turn_rule r k q =
        let s1 = opening p v r in
        let d1 = opening_rule r k q in
        let a1 : Acts r s1 = d1.0.acts in
        let s2 = revealing p v s1 in
        let d2 = revealing_rule s1 (acts_inv k a1) d1.0.clear in
        let a2 : Acts r s2 = acts_then a1 d2.0.acts in
        let s3 = relaying p v s2 in
        let d3 = relaying_rule s2 (acts_inv k a2) d2.0.clear in
        let a3 : Acts r s3 = acts_then a2 d3.0.acts in
        let s4 = refunding p v s3 in
        let d4 = refunding_rule s3 (acts_inv k a3) d3.0.clear in
        let f4 = acts_frame d4.0 in
        let f3 = acts_frame (acts_then d3.0.acts d4.0) in
        let f2 = acts_frame (acts_then d2.0.acts (acts_then d3.0.acts d4.0)) in
        subst (λ b. Acts r (cond b s4 r) × Done p (cond b s4 r) v) (sym c) (
          acts_then a3 d4.0,
          record {
            leads = leads_on v s1 s4 f2 d1.1;
            follows = follows_on v s1 s4 f2 d1.2;
            opened = λ i l b. longer_has f4.longer v (Open i (p.asset i) p.leader) (d3.0.clear.opened i l (sym d4.1 ∙ b));
            reveals = reveals_on v s2 s4 f3 d2.1;
            relays = λ lock. relays_on v s3 s4 f4 lock (d3.1 lock);
            passed = λ lock i route l e. longer_has f4.longer v (Key i route) (d3.0.clear.passed lock i route l (sym (d4.2 lock) ∙ e));
            refunds = d4.3;
          },
        )

-- what others do changes nothing of what u has done, nor of what it has still to do
pub done_other : (p : Swap) (u v : ℕ) (r s : Run) → Frame v r s → (u ≡ v → ⊥) → Done p r u → Done p s u
done_other p u v r s f d k =
    let o = f.others u d in
    record {
      leads = leads_on p u v r s f k.leads;
      follows = follows_on p u v r s f k.follows;
      opened = λ i l b. longer_has f.longer u (Open i (p.asset i) p.leader) (k.opened i l (sym o.0 ∙ b));
      reveals = reveals_on p u v r s f k.reveals;
      relays = λ lock. relays_on p u v r s f lock (k.relays lock);
      passed = λ lock i route l e. longer_has f.longer u (Key i route) (k.passed lock i route l (sym (o.1 lock) ∙ e));
      refunds = refunds_on p u v r s f k.refunds;
    }

clear_other : (p : Swap) (u v : ℕ) (r s : Run) → Frame v r s → (u ≡ v → ⊥) → Clear p u r → Clear p u s
clear_other p u v r s f d k =
    let o = f.others u d in
    record {
      opened = λ i l b. longer_has f.longer u (Open i (p.asset i) p.leader) (k.opened i l (sym o.0 ∙ b));
      passed = λ lock i route l e. longer_has f.longer u (Key i route) (k.passed lock i route l (sym (o.1 lock) ∙ e));
      unrefunded = λ i t. o.2 (Refund i) (k.unrefunded i (sym f.tick ∙ t));
    }

-- the parties below k have had their turns, from r to s
record Round (p : Swap) (r : Run) (k : ℕ) (s : Run) : Type 0 where
  steps : Steps p r s
  tick : s.tick ≡ r.tick
  escrow : s.escrow ≡ r.escrow
  longer : Longer r s
  done : (v : ℕ) → conforming p v ≡ true → v < k → Done p s v
  clear : (v : ℕ) → conforming p v ≡ true → k ≤ v → Clear p v s

round_next : (p : Swap) → Sound p → (r : Run) → Inv p r → (v : ℕ) (s : Run) → Round p r v s → Round p r (suc v) (turn p v s)
unfolding turn
round_next p sound r i v s k = go (conforming p v) refl
  where
    go : (b : Bool) → conforming p v ≡ b → Round p r (suc v) (turn p v s)
    go true c =
        let d = turn_rule p v c sound s (inv_steps p sound r s i k.steps) (k.clear v c (omega arith)) in
        let t = turn p v s in
        let f = acts_frame p v d.0 in
        record {
          steps = acts_steps p v c k.steps d.0;
          tick = f.tick ∙ k.tick;
          escrow = f.escrow ∙ k.escrow;
          longer = longer_then r s t k.longer f.longer f.tick;
          done =
              λ u e l. ⊎_elim (λ q. subst (Done p t) (sym q) d.1) (λ q. done_other p u v s t f q (k.done u e (omega arith))) (cases_eq u v);
          clear = λ u e l. clear_other p u v s t f (omega arith) (k.clear u e (omega arith));
        }
    go false c = subst (Round p r (suc v)) (sym (cond-false (conforming p v) (refunding p v (relaying p v (revealing p v
        (opening p v s)))) s c)) (record {
          steps = k.steps;
          tick = k.tick;
          escrow = k.escrow;
          longer = k.longer;
          done = λ u e l. ⊎_elim (λ q. absurd (both_ways (conforming p v) c (rw q at e))) (λ q. k.done u e (omega arith)) (cases_eq u v);
          clear = λ u e l. k.clear u e (omega arith);
        })

-- the conforming parties have had their turns: small steps that add lines, after which the tick is done
pub record Turned (p : Swap) (r s : Run) : Type 0 where
  pub steps : Steps p r s
  pub rested : Rested p s
  pub tick : s.tick ≡ r.tick
  pub escrow : s.escrow ≡ r.escrow
  pub longer : Longer r s

pub turned : (p : Swap) → Sound p → (r : Run) → Inv p r → Heard p r → Turned p r (turns p r)
unfolding turns
turned p sound r inv w =
    let s = each p.parties (turn p) r in
    let k : Round p r p.parties s = each_ind (Round p r) (turn p) r p.parties
    (record {
      steps = stop r;
      tick = refl;
      escrow = refl;
      longer = same_longer r;
      done = λ v c l. absurd (omega arith);
      clear = λ v c l. record {
        opened = λ i. w.opened v i c;
        passed = λ lock i route. w.passed v lock i route c;
        unrefunded = λ i. no_refund p r inv w v i c;
      };
    })
    (λ v s _. round_next p sound r inv v s) in
    record {
      steps = k.steps;
      rested = record {
        fresh = λ n h e. ⊎_elim
            (λ l. let o = k.longer.old n l in
            let a = w.fresh n l (sym o.1 ∙ e) in
            let b = ap (λ y. y.filed) o.0 in
            let d = k.tick in
            omega (arith, a, b, d))
            (λ l. let b = (k.longer.new n l h).1 in let d = sound.delay.0 in omega (arith, b, d))
            (cases_lt n r.count);
        done = λ v c. k.done v c (party p v c);
      };
      tick = k.tick;
      escrow = k.escrow;
      longer = k.longer;
    }

pub heard_fresh : (p : Swap) → Heard p (fresh p)
heard_fresh p = record {
  fresh = λ n h. absurd (omega arith);
  before = λ n h. absurd (omega arith);
  opened = λ v i c l b. absurd (true≢false (sym b));
  passed = λ v lock i route c l e. grind arith;
}
