-- What waits is exactly the lines without a verdict, each once.
use Rattle.std.proofs.Common.{◌≡◌, ℕ, suc, ◌+◌, ◌<◌, ◌≤◌, Bool, true, false, cond, ◌&&◌, eqb, ltb, List, [], ◌∷◌, length, Ok, Err, Result, sym, refl, ap, ◌∙◌, subst, ⊎_elim, arith}
use Rattle.protocol.proofs.Alter.{numbered}
use Rattle.protocol.proofs.Basics.{put_case, below, one_if, one_most}
use Rattle.protocol.proofs.Invariants.{Inv}
use Rattle.protocol.proofs.Keeps.{inv_fresh, inv_step, inv_steps, outsider_not}
use Rattle.protocol.proofs.Room.{journal_room}
use Rattle.protocol.proofs.Turns.{Heard, Longer, turned, heard_fresh, frame_file, done_other}
use Rattle.protocol.specs.Calls.{proper, ticked, fresh, waiting_line, Added, nothing, added, handled, Ticked, TakenUp, outsiders}
use Rattle.protocol.specs.Law.{NoneRefused}
use Rattle.protocol.specs.Parties.{file}
use Rattle.mempool.proofs.Keeping.{taken_all, all_taken, taken_length}
use Rattle.mempool.specs.Calls.{Taken, here, later, Drained, Fresh, Submitted, numbers}
use Rattle.mempool.specs.declared.refusal.Refusal.{Refusal}
use Rattle.mempool.specs.declared.refusal.Refusal.TheVariants.{Full, Duplicate}
use Rattle.protocol.specs.State.{Transaction, leg_of, Line, Run}
use Rattle.protocol.specs.Steps.{HasLine, Rested, outside, delivers, ticks, Steps, stop, then}
use Rattle.protocol.specs.Tables.{put}
use Rattle.protocol.specs.Verdicts.{pending, judged, tests, deliver, handle}
use Rattle.std.proofs.lemmas.Bool.{eqb-true, eq-eqb, ne_eqb, lt-ltb, le-ltb, cases_eq, cases_lt, and_from, and_left, and_right, not_from_false, cond-true, cond-false, both_ways}
use Rattle.std.proofs.lemmas.List.Elements.{All-nil, All-head, All-tail, All-weaker}
use Rattle.std.specs.List.{All}
use Rattle.swap.specs.Routes.{mem, distinct}
use Rattle.swap.specs.Limits.{outsider_lines, max_lines}
use Rattle.swap.specs.Swaps.{Swap, Sound}
use Rattle.swap.specs.declared.records.Waiting.{Waiting}

-- how many of what waits have number n
abbrev pub times : ℕ → List Waiting → ℕ
times n [] = 0
times n (w ∷ ws) = one_if (eqb n w.number) + times n ws

-- w is a line below m, as it was filed
abbrev pub Known : ℕ → (ℕ → Line) → Waiting → Type 0
Known m line w = (w.number < m) × ((line w.number).filer ≡ w.filer) × ((line w.number).filed ≡ w.tick)

-- of the first m lines, ws has those without a verdict
pub record Queue (m : ℕ) (line : ℕ → Line) (verdict : ℕ → ℕ) (ws : List Waiting) : Type 0 where
  pub known : All (Known m line) ws
  pub once : (n : ℕ) → times n ws ≡ cond (ltb n m && eqb (verdict n) pending) 1 0
  pub short : length ws ≤ m

abbrev pub Queued : Run → List Waiting → Type 0
Queued r ws = Queue r.count r.line r.verdict ws

one_if_true : (b : Bool) → 0 < one_if b → b ≡ true
one_if_true true h = refl
one_if_true false h = absurd (omega arith)

-- lists with one taken out

times_out : {w : Waiting} {ws rest : List Waiting} → Taken w ws rest → (n : ℕ) → times n ws ≡ times n rest + one_if (eqb n w.number)
times_out here n = omega arith
times_out (later t) n = let k = times_out t n in omega arith

-- a number that waits is a line without a verdict
all_times : (P : Waiting → Type 0) (n : ℕ) (ws : List Waiting) → All P ws → 0 < times n ws → (w : Waiting) × (w.number ≡ n) × P w
all_times P n [] h l = absurd (omega arith)
all_times P n (w ∷ ws) h l = go (all_times P n ws (All-tail P w ws h)) (eqb n w.number) refl
  where
    go : (0 < times n ws → (w : Waiting) × (w.number ≡ n) × P w) → (b : Bool) → eqb n w.number ≡ b → (w : Waiting) × (w.number ≡ n) × P w
    go more true e = (w, sym (eqb-true n w.number e), All-head P w ws h)
    go more false e = more (let z : times n ws ≡ one_if (eqb n w.number) + times n ws = rw e (omega arith) in omega arith)

module _ {m : ℕ} {line : ℕ → Line} {verdict : ℕ → ℕ} {ws : List Waiting} (q : Queue m line verdict ws) where
  -- nothing is handed out that is not a line without a verdict
  pub taken_waits : {w : Waiting} {rest : List Waiting} → Taken w ws rest → (w.number < m) × (verdict w.number ≡ pending)
  taken_waits {w} t = grind (arith, times_out t w.number, q.once w.number)

  pub waits_taken : (n : ℕ) → n < m → verdict n ≡ pending → 0 < times n ws
  waits_taken n h e = grind (arith, q.once n)

-- the mempool takes a new line: its number does not wait, and fewer wait than the journal will have lines
mem_times : (n : ℕ) (ws : List Waiting) → times n ws ≡ 0 → mem n (numbers ws) ≡ false
mem_times n [] e = refl
mem_times n (w ∷ ws) e = grind (arith, mem_times n ws)

distinct_times : (ws : List Waiting) → ((n : ℕ) → times n ws ≤ 1) → distinct (numbers ws) ≡ true
distinct_times [] h = refl
distinct_times (w ∷ ws) h =
    let n = w.number in
    let e : one_if (eqb n n) ≡ 1 = rw (eq-eqb n n refl) refl in
    let a = h n in
    and_from _ _ (not_from_false _ (mem_times n ws (omega arith))) (distinct_times ws (λ k. let b = h k in omega arith))

pub room_for : {m : ℕ} {line : ℕ → Line} {verdict : ℕ → ℕ} {ws : List Waiting} → Queue m line verdict ws
    → (mem m (numbers ws) ≡ false) × (length ws ≤ m)
room_for {m} {line} {verdict} {ws} q =
    (mem_times m ws (q.once m ∙ cond-false _ 1 0 (and_left _ _ (le-ltb m m (omega arith)))), q.short)

pub numbers_apart : {m : ℕ} {line : ℕ → Line} {verdict : ℕ → ℕ} {ws : List Waiting} → Queue m line verdict ws → distinct (numbers ws) ≡ true
numbers_apart {m} {line} {verdict} {ws} q =
    distinct_times ws (λ n. let a = q.once n in let b = one_most (ltb n m && eqb (verdict n) pending) in omega arith)

pub queue_none : (line : ℕ → Line) (verdict : ℕ → ℕ) → Queue 0 line verdict []
queue_none line verdict = record {
  known = All-nil (Known 0 line);
  once = λ n. sym (cond-false _ 1 0 (and_left _ _ (le-ltb n 0 (omega arith))));
  short = omega arith;
}

-- Filing: old lines stay
pub queue_longer : (r s : Run) (ws : List Waiting) → Longer r s → Queued r ws → Queue r.count s.line s.verdict ws
queue_longer r s ws l q = record {
  known = All-weaker (Known r.count r.line) (Known r.count s.line)
      (λ w h. let e = (l.old w.number h.0).0 in (h.0, ap (λ y. y.filer) e ∙ h.1, ap (λ y. y.filed) e ∙ h.2)) ws q.known;
  once = λ n. ⊎_elim
      (λ h. q.once n ∙ ap (λ y. one_if (ltb n r.count && eqb y pending)) (sym (l.old n h).1))
      (λ h. let e = le-ltb n r.count h in q.once n ∙ cond-false _ 1 0 (and_left _ _ e) ∙ sym (cond-false _ 1 0 (and_left _ _ e)))
      (cases_lt n r.count);
  short = q.short;
}

added_more : {r : Run} {n m : ℕ} {ws after : List Waiting} → Added r n m ws after → n ≤ m
added_more nothing = omega arith
added_more (added a answer t) = let h = added_more a in omega arith

ltb_suc : (k m : ℕ) → (k ≡ m → ⊥) → ltb k (suc m) ≡ ltb k m
ltb_suc k m d = ⊎_elim
    (λ h. lt-ltb k (suc m) (omega arith) ∙ sym (lt-ltb k m h))
    (λ h. le-ltb k (suc m) (omega arith) ∙ sym (le-ltb k m h))
    (cases_lt k m)

-- one line more
queue_more : (m : ℕ) (line : ℕ → Line) (verdict : ℕ → ℕ) (w : Waiting) (before after : List Waiting) → Queue m line verdict before
    → Taken w after before
    → w.number ≡ m → (line m).filer ≡ w.filer → (line m).filed ≡ w.tick → verdict m ≡ pending → Queue (suc m) line verdict after
queue_more m line verdict w before after q t e filer filed wait = record {
  known = all_taken (Known (suc m) line) t (omega arith, ap (λ k. (line k).filer) e ∙ filer, ap (λ k. (line k).filed) e ∙ filed)
      (All-weaker (Known m line) (Known (suc m) line) (λ w h. (omega arith, h.1, h.2)) before q.known);
  once = λ k. times_out t k ∙ ⊎_elim
      (λ d. let a : times k before ≡ 0 = q.once k ∙ cond-false _ 1 0 (and_left _ _ (le-ltb k m (omega arith))) in
      let b : one_if (eqb k w.number) ≡ 1 = cond-true _ 1 0 (eq-eqb k w.number (omega arith)) in
      let g : one_if (ltb k (suc m) && eqb (verdict k) pending) ≡ 1 =
      cond-true _ 1 0 (and_from _ _ (lt-ltb k (suc m) (omega arith)) (eq-eqb (verdict k) pending (ap verdict d ∙ wait))) in
      omega arith)
      (λ d. let a = q.once k in
      let b : one_if (eqb k w.number) ≡ 0 = cond-false _ 1 0 (ne_eqb k w.number (λ g. d (g ∙ e))) in
      let g : one_if (ltb k (suc m) && eqb (verdict k) pending) ≡ one_if (ltb k m && eqb (verdict k) pending) = rw (ltb_suc k m d) refl in
      omega arith)
      (cases_eq k m);
  short = let a = q.short in let b = taken_length t in omega arith;
}

-- the mempool takes one more line
accepted : {line : ℕ → Line} {verdict : ℕ → ℕ} {w : Waiting} {before after : List Waiting} (answer : Result (Unit {0}) Refusal)
    → Queue w.number line verdict before → w.number < max_lines → Submitted w answer before after → Taken w after before × (answer ≡ Ok tt)
accepted (Ok _) q h t = (t.2, refl)
accepted (Err Full) q h t = let a = room_for q in let b = t.0 in absurd (omega arith)
accepted (Err Duplicate) q h t = absurd (both_ways _ (room_for q).0 t.1)

pub queue_added : {r : Run} {n m : ℕ} {ws after : List Waiting} → (a : Added r n m ws after) → Queue n r.line r.verdict ws
    → ((k : ℕ) → n ≤ k → k < m → r.verdict k ≡ pending) → m ≤ max_lines → Queue m r.line r.verdict after × NoneRefused a
queue_added nothing q wait fits = (q, tt)
queue_added {r} {n} (added {m} {ws} {before} {after} a answer t) q wait fits =
    let u = queue_added a q (λ k h l. wait k h (omega arith)) (omega arith) in
    let k = accepted answer u.0 (omega arith) t in
    (queue_more m r.line r.verdict (waiting_line r m) before after u.0 k.0 refl refl refl (wait m (added_more a) (omega arith)), (u.1, k.1))

-- Filings that add lines, with what they add to what waits
pub queue_filed : (r s : Run) (n : ℕ) (ws after : List Waiting) → r.count ≡ n → Longer r s → (a : Added s n s.count ws after) → Queued r ws
    → s.count ≤ max_lines
    → Queued s after × NoneRefused a
queue_filed r s n ws after e l a q fits =
    queue_added a (subst (λ m. Queue m s.line s.verdict ws) e (queue_longer r s ws l q)) (λ k h m. (l.new k (omega arith) m).0) fits

-- A delivery: the line has a verdict
queue_judged : (m : ℕ) (line : ℕ → Line) (verdict : ℕ → ℕ) (w : Waiting) (before after : List Waiting) (j : ℕ) → j < 255
    → Queue m line verdict before → Taken w before after
    → Queue m line (put verdict w.number j) after
queue_judged m line verdict w before after j small q t = record {
  known = (taken_all (Known m line) t q.known).1;
  once = λ k. let a = times_out t k in let b = q.once k in
      put_case (λ y. times k after ≡ one_if (ltb k m && eqb y pending)) verdict w.number j k
      (λ d. let e : one_if (eqb k w.number) ≡ 1 = cond-true _ 1 0 (eq-eqb k w.number d) in
      let h = one_most (ltb k m && eqb (verdict k) pending) in
      let g : one_if (ltb k m && eqb j pending) ≡ 0 = cond-false _ 1 0 (and_right _ _ (ne_eqb j pending (omega arith))) in
      omega arith)
      (λ d. let e : one_if (eqb k w.number) ≡ 0 = cond-false _ 1 0 (ne_eqb k w.number d) in omega arith);
  short = let a = q.short in let b = taken_length t in omega arith;
}

-- what deliveries leave
pub record Delivered (p : Swap) (r s : Run) (after : List Waiting) : Type 0 where
  pub steps : Steps p r s
  pub tick : s.tick ≡ r.tick
  pub count : s.count ≡ r.count
  pub line : s.line ≡ r.line
  pub signed : s.signed ≡ r.signed
  pub begun : s.begun ≡ r.begun
  pub queue : Queued s after

deliver_one : (p : Swap) (r s : Run) (w : Waiting) (before after : List Waiting) → ((n : ℕ) → n < r.count → (r.line n).filed < r.tick)
    → Delivered p r s before → Taken w before after → Delivered p r (deliver p w.number s) after
unfolding deliver judged
deliver_one p r s w before after old d t =
    let n = w.number in
    let a = taken_waits d.queue t in
    let c : n < r.count = subst (λ k. n < k) d.count a.0 in
    let f : (s.line n).filed ≡ (r.line n).filed = ap (λ g. (g n).filed) d.line in
    let b = old n c in
    let e = d.tick in
    let l = s.line n in
    record {
      steps = then d.steps (delivers s n a.0 a.1 (omega arith));
      tick = d.tick;
      count = d.count;
      line = d.line;
      signed = d.signed;
      begun = d.begun;
      queue = queue_judged s.count s.line s.verdict w before after (judged p s l)
          (below (tests p s.tick s.signed s.stock l.filer l.transaction (s.escrow (leg_of l.transaction)))
          (numbered p s.tick s.signed s.stock l.filer l.transaction (s.escrow (leg_of l.transaction))))
          d.queue t;
    }

-- so what is handed out is judged
pub handle_deliver : (p : Swap) (n : ℕ) (s : Run) → n < s.count → s.verdict n ≡ pending → handle p n s ≡ deliver p n s
unfolding handle
handle_deliver p n s h e = cond-true _ (deliver p n s) s (and_from _ _ (lt-ltb n s.count h) (eq-eqb (s.verdict n) pending e))

drained : (p : Swap) (r s : Run) {handed ws left : List Waiting} → Drained handed ws left → Delivered p r s ws
    → ((n : ℕ) → n < r.count → (r.line n).filed < r.tick)
    → Delivered p r (handled p handed s) left
drained p r s Drained.none d old = d
drained p r s (Drained.more {w} {taken} {before} {between} {after} t rest) d old =
    let h = taken_waits d.queue t in
    drained p r (handle p w.number s) rest
    (subst (λ y. Delivered p r y between) (sym (handle_deliver p w.number s h.0 h.1)) (deliver_one p r s w before between old d t)) old

pub delivered : (p : Swap) (r : Run) {handed ws left : List Waiting} → Drained handed ws left → Queued r ws
    → ((n : ℕ) → n < r.count → (r.line n).filed < r.tick)
    → Delivered p r (handled p handed r) left
delivered p r t q old =
    drained p r r t (record { steps = stop r; tick = refl; count = refl; line = refl; signed = refl; begun = refl; queue = q }) old

-- After a tick's deliveries, when none is left that has waited Δ ticks, the parties have heard all there is.
pub heard_all : (p : Swap) (r s : Run) (ws left : List Waiting) → Inv p r → Rested p r → Delivered p (ticked r) s left
    → All (Fresh (suc r.tick) p.delta) left → Heard p s
heard_all p r s ws left i k d soon =
    let lines : s.line ≡ r.line = d.line in
    let count : s.count ≡ r.count = d.count in
    let has : (v : ℕ) (x : Transaction) → HasLine r v x → HasLine s v x = λ v x h.
    (h.0, omega (arith, h.1, count), ap (λ g. (g h.0).filer) lines ∙ h.2, ap (λ g. (g h.0).transaction) lines ∙ h.3) in
    record {
      fresh = λ n h e.
          let w = all_times (λ w. (suc r.tick < w.tick + p.delta) × Known s.count s.line w) n left
          (λ k d' h'. (soon k d' h', d.queue.known k d' h'))
          (waits_taken d.queue n h e) in
          let a : (s.line n).filed ≡ w.0.tick = ap (λ m. (s.line m).filed) (sym w.1) ∙ w.2.1.2 in
          let b = w.2.0 in
          let t : s.tick ≡ suc r.tick = d.tick in
          omega arith;
      before = λ n h.
          let a = i.lines.before n (omega (arith, h, count)) in
          let b : (s.line n).filed ≡ (r.line n).filed = ap (λ g. (g n).filed) lines in
          let t : s.tick ≡ suc r.tick = d.tick in
          omega (arith, a, b, t);
      opened = λ v j c l b. has v _ ((k.done v c).opened j l (sym (ap (λ g. g v) d.begun) ∙ b));
      passed = λ v lock j route c l e. has v _ ((k.done v c).passed lock j route l (sym (ap (λ g. g v lock) d.signed) ∙ e));
    }

pub steps_then : {p : Swap} {r s t : Run} → Steps p r s → Steps p s t → Steps p r t
steps_then a (stop r) = a
steps_then a (then b c) = then (steps_then a b) c

-- what holds of a run between calls: it was got by small steps, its tick is done, and what waits is its lines without a verdict
pub record Quiet (p : Swap) (r : Run) (ws : List Waiting) : Type 0 where
  pub sound : Sound p
  pub steps : Steps p (fresh p) r
  pub rested : Rested p r
  pub queue : Queued r ws

pub quiet_inv : (p : Swap) (r : Run) (ws : List Waiting) → Quiet p r ws → Inv p r
quiet_inv p r ws k = inv_steps p k.sound (fresh p) r (inv_fresh p k.sound) k.steps

-- an outsider's filing
pub submitted : (p : Swap) (r : Run) (ws after : List Waiting) (v : ℕ) (x : Transaction) → p.outsider v ≡ true
    → outsiders p r < outsider_lines → proper p x ≡ true
    → (a : Added (file v x r) r.count (suc r.count) ws after) → Quiet p r ws → Quiet p (file v x r) after × NoneRefused a
submitted p r ws after v x o few ok a k =
    let f = frame_file v x r in
    let y = file v x r in
    let q = queue_filed r y r.count ws after refl f.longer a k.queue
    (journal_room p k.sound y (inv_step p k.sound r y (quiet_inv p r ws k) (outside r v x o few ok))) in (
      record {
        sound = k.sound;
        steps = then k.steps (outside r v x o few ok);
        rested = record {
          fresh = λ n h e. ⊎_elim
              (λ l. let g = f.longer.old n l in
              let b = k.rested.fresh n l (sym g.1 ∙ e) in
              let c = ap (λ z. z.filed) g.0 in
              omega (arith, b, c))
              (λ l. let b = (f.longer.new n l h).1 in let c = k.sound.delay.0 in omega (arith, b, c))
              (cases_lt n r.count);
          done = λ u c. done_other p u v r y f
              (λ e. outsider_not p u (ap p.outsider e ∙ o) c)
              (k.rested.done u c);
        };
        queue = q.0;
      },
      q.1,
    )

-- a swap taken up
pub taken_up : (p : Swap) (s : Run) (after : List Waiting) → (t : TakenUp p s after) → Quiet p s after × NoneRefused t.waits
taken_up p s after u =
    let d = turned p u.sound (fresh p) (inv_fresh p u.sound) (heard_fresh p) in
    let e = sym u.filed in
    let steps = subst (Steps p (fresh p)) e d.steps in
    let q = queue_filed (fresh p) s 0 [] after refl (subst (Longer (fresh p)) e d.longer) u.waits (queue_none _ _)
    (journal_room p u.sound s (inv_steps p u.sound (fresh p) s (inv_fresh p u.sound) steps)) in
    (record { sound = u.sound; steps = steps; rested = subst (Rested p) e d.rested; queue = q.0 }, q.1)

-- a tick
pub tick_done : (p : Swap) (r s : Run) (ws after : List Waiting) → (t : Ticked p r ws s after) → Quiet p r ws
    → Quiet p s after × NoneRefused t.waits
tick_done p r s ws after t k =
    let i = quiet_inv p r ws k in
    let heard = handled p t.handed (ticked r) in
    let d = delivered p (ticked r) t.drained k.queue (λ n h. let b = i.lines.before n h in omega arith) in
    let a : Steps p (fresh p) heard = steps_then (then k.steps (ticks r k.rested)) d.steps in
    let w = turned p k.sound heard (inv_steps p k.sound (fresh p) heard (inv_fresh p k.sound) a)
    (heard_all p r heard ws t.left i k.rested d t.fresh) in
    let e = sym t.filed in
    let steps = steps_then a (subst (Steps p heard) e w.steps) in
    let q = queue_filed heard s r.count t.left after d.count (subst (Longer heard) e w.longer) t.waits d.queue
    (journal_room p k.sound s (inv_steps p k.sound (fresh p) s (inv_fresh p k.sound) steps)) in
    (record { sound = k.sound; steps = steps; rested = subst (Rested p) e w.rested; queue = q.0 }, q.1)
