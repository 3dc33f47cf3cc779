-- Calls lead to the runs of the examples.
use Rattle.std.proofs.Common.{◌≡◌, ℕ, zero, suc, ◌+◌, ◌-◌, ◌<◌, ◌≤◌, Bool, true, false, cond, not, ◌&&◌, eqb, ltb, leb, List, [], ◌∷◌, ◌++◌, length, Some, None, Ok, Err, Option, Result, sym, refl, ap, ◌∙◌, subst, ⊎_elim, arith}
use Rattle.protocol.proofs.Alter.{numbered}
use Rattle.protocol.proofs.Basics.{put_case, below, one_if}
use Rattle.protocol.proofs.Filing.{inv_tick}
use Rattle.protocol.proofs.Keeps.{inv_steps}
use Rattle.protocol.proofs.Nevers.{queue_known}
use Rattle.protocol.proofs.Queue.{Known, times, waits_taken, handle_deliver, Delivered, delivered, heard_all, Quiet, quiet_inv}
use Rattle.protocol.proofs.Reach.{reached_lasts}
use Rattle.protocol.proofs.Turns.{each_ind, turned}
use Rattle.protocol.specs.Calls.{fresh, ticked, over, outsiders, proper, waiting_line, Added, added, handled, Ticked, Call, load, submit, tick', Answer, refusal, Effect, Settled, Answered, Reached, new, after}
use Rattle.protocol.specs.Courses.{Delivery, prompt, slow, hands, tick_by, ticks_by, filings}
use Rattle.protocol.specs.Law.{Legible, Total}
use Rattle.protocol.specs.Parties.{file, enter, turns}
use Rattle.mempool.proofs.Keeping.{drained_push}
use Rattle.mempool.specs.Calls.{Taken, here, later, Drained, none, Fresh, Submitted, waits}
use Rattle.mempool.specs.declared.refusal.Refusal.{Refusal}
use Rattle.mempool.specs.declared.refusal.Refusal.TheVariants.{Full, Duplicate}
use Rattle.protocol.specs.State.{Transaction, leg_of, Run, State, idle, running, last_tick}
use Rattle.protocol.specs.Stocks.{cleared}
use Rattle.protocol.specs.Tables.{each}
use Rattle.protocol.specs.Verdicts.{pending, tests, judged, deliver, handle}
use Rattle.std.proofs.lemmas.List.Elements.{All-weaker}
use Rattle.std.proofs.lemmas.Bool.{cases_eq, and_parts, and_from, cond-false, eqb-true, eq-eqb, ltb-true, ltb-false, lt-ltb, lt-leb, leb-false, leb-true, not-true, both_ways}
use Rattle.std.specs.List.{All}
use Rattle.swap.specs.Limits.{outsider_lines, max_lines}
use Rattle.swap.specs.Swaps.{Swap, Sound}
use Rattle.swap.specs.declared.faults.Fault.{Fault}
use Rattle.swap.specs.declared.records.Waiting.{Waiting}

-- a number that waits can be handed out
times_taken : (n : ℕ) (ws : List Waiting) → 0 < times n ws → (w : Waiting) × (rest : List Waiting) × Taken w ws rest × (w.number ≡ n)
times_taken n [] h = absurd (omega arith)
times_taken n (w ∷ ws) h = go (times_taken n ws) (eqb n w.number) refl
  where
    go : (0 < times n ws → (w : Waiting) × (rest : List Waiting) × Taken w ws rest × (w.number ≡ n)) → (b : Bool) → eqb n w.number ≡ b
        → (u : Waiting) × (rest : List Waiting) × Taken u (w ∷ ws) rest × (u.number ≡ n)
    go more true e = (w, ws, here, sym (eqb-true n w.number e))
    go more false e =
        let z : one_if (eqb n w.number) ≡ 0 = ap one_if e in
        let t = more (omega arith) in
        (t.0, w ∷ t.1, later t.2, t.3)

-- lines can be submitted
submit_any : (w : Waiting) (ws : List Waiting) → (vs : List Waiting) × (answer : Result (Unit {0}) Refusal) × Submitted w answer ws vs
submit_any w ws = go (ltb (length ws) max_lines) (waits w.number ws) refl refl
  where
    go : (b c : Bool) → ltb (length ws) max_lines ≡ b → waits w.number ws ≡ c
        → (vs : List Waiting) × (answer : Result (Unit {0}) Refusal) × Submitted w answer ws vs
    go true false e f = (w ∷ ws, Ok tt, (ltb-true _ _ e, f, here))
    go true true e f = (ws, Err Duplicate, (ltb-true _ _ e, f, refl))
    go false c e f = (ws, Err Full, (ltb-false _ _ e, refl))

added_any : (r : Run) (n k : ℕ) (ws : List Waiting) → (vs : List Waiting) × Added r n (n + k) ws vs
added_any r n zero ws = (ws, subst (λ m. Added r n m ws ws) (omega arith) Added.nothing)
added_any r n (suc k) ws =
    let t = added_any r n k ws in
    let u = submit_any (waiting_line r (n + k)) t.0 in
    (u.0, subst (λ m. Added r n m ws u.0) (omega arith) (added t.1 u.1 u.2))

added_to : (r : Run) (n m : ℕ) (ws : List Waiting) → n ≤ m → (vs : List Waiting) × Added r n m ws vs
added_to r n m ws h = let t = added_any r n (m - n) ws in (t.0, subst (λ k. Added r n k ws t.0) (omega arith) t.1)

handled_push : (p : Swap) (ws : List Waiting) (w : Waiting) (r : Run) → handled p (ws ++ w ∷ []) r ≡ handle p w.number (handled p ws r)
handled_push p [] w r = refl
handled_push p (v ∷ ws) w r = handled_push p ws w (handle p v.number r)

-- lines 0 to k have been looked at in a tick, and those that are due were handed out
record Looked (p : Swap) (r : Run) (ws : List Waiting) (k : ℕ) (s : Run) : Type 0 where
  handed : List Waiting
  left : List Waiting
  drained : Drained handed ws left
  run : s ≡ handled p handed (ticked r)
  due : (n : ℕ) → n < k → n < s.count → s.verdict n ≡ pending → s.tick < (s.line n).filed + p.delta

module _ (p : Swap) (r : Run) (ws : List Waiting) (q : Quiet p r ws) where
  old : (n : ℕ) → n < r.count → (r.line n).filed < suc r.tick
  old n h = let b = (quiet_inv p r ws q).lines.before n h in omega arith

  skipped : (k : ℕ) (s : Run) → Looked p r ws k s → (k < s.count → s.verdict k ≡ pending → s.tick < (s.line k).filed + p.delta)
      → Looked p r ws (suc k) s
  skipped k s l h = record {
    handed = l.handed;
    left = l.left;
    drained = l.drained;
    run = l.run;
    due = λ n a b e. ⊎_elim
        (λ z. subst (λ m. m < s.count → s.verdict m ≡ pending → s.tick < (s.line m).filed + p.delta) (sym z) h b e)
        (λ d. l.due n (omega arith) b e)
        (cases_eq n k);
  }

  judged_small : (s : Run) (k : ℕ) → judged p s (s.line k) < 255
  unfolding judged
  judged_small s k =
      below (tests p s.tick s.signed s.stock (s.line k).filer (s.line k).transaction (s.escrow (leg_of (s.line k).transaction)))
      (numbered p s.tick s.signed s.stock (s.line k).filer (s.line k).transaction (s.escrow (leg_of (s.line k).transaction)))

  judged_due : (k : ℕ) (s : Run) → Looked p r ws k s → (n : ℕ) → n < suc k → n < s.count → (deliver p k s).verdict n ≡ pending
      → s.tick < (s.line n).filed + p.delta
  unfolding deliver
  judged_due k s l n a b = put_case (λ z. z ≡ pending → s.tick < (s.line n).filed + p.delta) s.verdict k (judged p s (s.line k)) n
      (λ _ z. let y = judged_small s k in absurd (omega arith)) (λ d. l.due n (omega arith) b)

  heard : {k : ℕ} (s : Run) → (l : Looked p r ws k s) → Delivered p (ticked r) s l.left
  heard s l = subst (λ y. Delivered p (ticked r) y l.left) (sym l.run) (delivered p (ticked r) l.drained q.queue old)

  judged_next : (k : ℕ) (s : Run) → Looked p r ws k s → k < s.count → s.verdict k ≡ pending → Looked p r ws (suc k) (deliver p k s)
  unfolding deliver
  judged_next k s l h e =
      let t = times_taken k l.left (waits_taken (heard s l).queue k h e) in
      record {
        handed = l.handed ++ t.0 ∷ [];
        left = t.1;
        drained = drained_push l.drained t.2 refl;
        run = sym (handle_deliver p k s h e) ∙ ap (λ m. handle p m s) (sym t.3) ∙ ap (handle p t.0.number) l.run
            ∙ sym (handled_push p l.handed t.0 (ticked r));
        due = judged_due k s l;
      }

  handle_next : (k : ℕ) (s : Run) → Looked p r ws k s → Looked p r ws (suc k) (handle p k s)
  unfolding handle
  handle_next k s l = go (ltb k s.count && eqb (s.verdict k) pending) refl
    where
      go : (b : Bool) → (ltb k s.count && eqb (s.verdict k) pending) ≡ b → Looked p r ws (suc k) (cond b (deliver p k s) s)
      go true e = let h = and_parts _ _ e in judged_next k s l (ltb-true _ _ h.0) (eqb-true _ _ h.1)
      go false e = skipped k s l (λ h z. absurd (both_ways _ e (and_from _ _ (lt-ltb _ _ h) (eq-eqb _ _ z))))

  hands_next : (delivery : Delivery) (k : ℕ) (s : Run) → Looked p r ws k s → Looked p r ws (suc k) (hands delivery p k s)
  hands_next prompt k s l = handle_next k s l
  hands_next slow k s l = go (leb ((s.line k).filed + p.delta) s.tick) refl
    where
      go : (b : Bool) → leb ((s.line k).filed + p.delta) s.tick ≡ b → Looked p r ws (suc k) (cond b (handle p k s) s)
      go true e = handle_next k s l
      go false e = skipped k s l (λ _ _. leb-false _ _ e)

tick_answers : (p : Swap) (r s : Run) (ws vs : List Waiting) → r.tick < last_tick p → Ticked p r ws s vs
    → Answered (running p r ws) tick' (Ok (suc r.tick)) (running p s vs)
tick_answers p r s ws vs soon t =
    subst (λ o. Settled o (running p r ws) tick' (Ok (suc r.tick)) (running p s vs)) (sym open') (s, vs, t, refl, refl)
  where
    open' : refusal (running p r ws) tick' ≡ None
    open' = cond-false _ _ _ (lt-leb (last_tick p) r.tick soon)

-- a tick
ticked_by : (delivery : Delivery) (p : Swap) (r : Run) (ws : List Waiting) → Quiet p r ws
    → (vs : List Waiting) × Ticked p r ws (tick_by delivery p r) vs × ((tick_by delivery p r).tick ≡ suc r.tick)
unfolding tick_by
ticked_by delivery p r ws q =
    let i = quiet_inv p r ws q in
    let s = each r.count (hands delivery p) (ticked r) in
    let l : Looked p r ws r.count s = each_ind (Looked p r ws) (hands delivery p) (ticked r) r.count
    (record { handed = []; left = ws; drained = none; run = refl; due = λ n a. absurd (omega arith) })
    (λ k s _ x. hands_next p r ws q delivery k s x) in
    let d = heard p r ws q s l in
    let soon : All (Fresh (suc r.tick) p.delta) l.left =
    All-weaker (λ w. Known s.count s.line w × (s.verdict w.number ≡ pending)) (Fresh (suc r.tick) p.delta)
    (λ w k. let c = d.count in let t = d.tick in let f = k.0.2 in let b = k.0.0 in
    let z = l.due w.number (omega arith) b k.1 in omega arith)
    l.left (queue_known d.queue) in
    let inv = inv_steps p q.sound (ticked r) s (inv_tick p r i q.rested) d.steps in
    let w = turned p q.sound s inv (heard_all p r s ws l.left i q.rested d soon) in
    let a = added_to (turns p s) r.count (turns p s).count l.left (subst (λ n. n ≤ (turns p s).count) d.count w.longer.count) in (
      a.0,
      record { handed = l.handed; left = l.left; drained = l.drained; fresh = soon; filed = ap (turns p) l.run; waits = a.1 },
      w.tick
          ∙ d.tick,
    )

tick_by_reached : (delivery : Delivery) (p : Swap) (r : Run) (ws : List Waiting) → Reached (running p r ws) → r.tick < last_tick p
    → (vs : List Waiting) × Reached (running p (tick_by delivery p r) vs) × ((tick_by delivery p r).tick ≡ suc r.tick)
tick_by_reached delivery p r ws h soon =
    let t = ticked_by delivery p r ws (reached_lasts h) in (
      t.0,
      after {s' = running p (tick_by delivery p r) t.0} tick' (Ok (suc r.tick)) h
          (tick_answers p r (tick_by delivery p r) ws t.0 soon t.1),
      t.2,
    )

ticks_by_reached : (n : ℕ) (delivery : Delivery) (p : Swap) (r : Run) (ws : List Waiting) → Reached (running p r ws)
    → r.tick + n ≤ last_tick p
    → (vs : List Waiting) × Reached (running p (ticks_by n delivery p r) vs) × ((ticks_by n delivery p r).tick ≡ r.tick + n)
unfolding ticks_by
ticks_by_reached zero delivery p r ws h b = (ws, h, omega arith)
ticks_by_reached (suc n) delivery p r ws h b =
    let t = ticks_by_reached n delivery p r ws h (omega arith) in
    let e = t.2 in
    let u = tick_by_reached delivery p (ticks_by n delivery p r) t.0 t.1 (omega arith) in
    let f = u.2 in
    (u.0, u.1, omega arith)

-- an outsider's filing
enter_more : (v : ℕ) (x : Transaction) (r : Run) → r.count ≤ (enter v x r).count
unfolding enter
enter_more v x r = go (ltb r.count max_lines)
  where
    go : (b : Bool) → r.count ≤ (cond b (file v x r) r).count
    go true = omega arith
    go false = omega arith

file_by : (p : Swap) (r : Run) (ws : List Waiting) (v : ℕ) (x : Transaction) → Reached (running p r ws)
    → over p r ≡ false → p.outsider v ≡ true → leb outsider_lines (outsiders p r) ≡ false → proper p x ≡ true → (vs : List Waiting)
    × Reached (running p (enter v x r) vs)
file_by p r ws v x h a b c d =
    let t = added_to (enter v x r) r.count (enter v x r).count ws (enter_more v x r) in (
      t.0,
      after (submit v x) (Ok r.count) h
          (subst (λ o. Settled o (running p r ws) (submit v x) (Ok r.count) (running p (enter v x r) t.0)) (sym open')
          (t.0, t.1, refl, refl)),
    )
  where
    open' : refusal (running p r ws) (submit v x) ≡ None
    open' = cond-false _ _ _ a ∙ cond-false _ _ _ (ap not b) ∙ cond-false _ _ _ c ∙ cond-false _ _ _ (ap not d)

-- every filing can be made when its time comes
abbrev pub fine : Delivery → Swap → List (ℕ × ℕ × Transaction) → Run → Bool
fine delivery p [] r = true
fine delivery p (f ∷ fs) r =
    ltb (r.tick + f.0) (last_tick p) && p.outsider f.1 && not (leb outsider_lines (outsiders p (ticks_by f.0 delivery p r))) && proper p f.2
    && fine delivery p fs (enter f.1 f.2 (ticks_by f.0 delivery p r))

filings_by : (delivery : Delivery) (p : Swap) (fs : List (ℕ × ℕ × Transaction)) (r : Run) (ws : List Waiting) → Reached (running p r ws)
    → fine delivery p fs r ≡ true
    → (vs : List Waiting) × Reached (running p (filings delivery p fs r) vs)
unfolding filings
filings_by delivery p [] r ws h e = (ws, h)
filings_by delivery p (f ∷ fs) r ws h e =
    let e1 = and_parts _ _ e in
    let e2 = and_parts _ _ e1.0 in
    let e3 = and_parts _ _ e2.0 in
    let e4 = and_parts _ _ e3.0 in
    let soon : r.tick + f.0 < last_tick p = ltb-true _ _ e4.0 in
    let t = ticks_by_reached f.0 delivery p r ws h (omega arith) in
    let z = t.2 in
    let u = file_by p (ticks_by f.0 delivery p r) t.0 f.1 f.2 t.1 (lt-leb _ _ (omega arith)) e4.1 (not-true _ e3.1) e2.1 in
    filings_by delivery p fs (enter f.1 f.2 (ticks_by f.0 delivery p r)) u.0 u.1 e1.1

pub taken_up : (p : Swap) → Sound p → (ws : List Waiting) × Reached (running p (turns p (fresh p)) ws)
taken_up p s =
    let a = added_to (turns p (fresh p)) 0 (turns p (fresh p)).count [] (omega arith) in
    (a.0, after (load (Ok p)) (Ok 0) (new cleared []) (turns p (fresh p), a.0, record { sound = s; filed = refl; waits = a.1 }, refl, refl))

-- the run of an example: filings, then ticks
pub attained : (delivery : Delivery) (p : Swap) → Sound p → (fs : List (ℕ × ℕ × Transaction)) (n : ℕ)
    → fine delivery p fs (turns p (fresh p)) ≡ true
    → leb ((filings delivery p fs (turns p (fresh p))).tick + n) (last_tick p) ≡ true
    → (ws : List Waiting) × Reached (running p (ticks_by n delivery p (filings delivery p fs (turns p (fresh p)))) ws)
attained delivery p s fs n e f =
    let a = taken_up p s in
    let b = filings_by delivery p fs (turns p (fresh p)) a.0 a.1 e in
    let c = ticks_by_reached n delivery p (filings delivery p fs (turns p (fresh p))) b.0 b.1 (leb-true _ _ f) in
    (c.0, c.1)

-- no call is left without an answer
answered_by : (s : State) (c : Call) → (refusal s c ≡ None → (a : Answer) × (s' : State) × Effect s c a s')
    → (a : Answer) × (s' : State) × Answered s c a s'
answered_by s c f = go (refusal s c) refl
  where
    go : (o : Option Fault) → refusal s c ≡ o → (a : Answer) × (s' : State) × Settled o s c a s'
    go (Some fault) e = (Err fault, s, (refl, refl))
    go None e = f e

clash_none : {A : Type 0} (fault : Fault) → ◌≡◌ {A = Option Fault} (Some fault) None → A
clash_none fault e = grind arith

effect_to : (s : State) → Reached s → (c : Call) → Legible c → refusal s c ≡ None → (a : Answer) × (s' : State) × Effect s c a s'
effect_to (idle stock ws) h (load (Ok p)) l e =
    let t = added_to (turns p (fresh p)) 0 (turns p (fresh p)).count [] (omega arith) in
    (Ok 0, running p (turns p (fresh p)) t.0, (turns p (fresh p), t.0, record { sound = l; filed = refl; waits = t.1 }, refl, refl))
effect_to (idle stock ws) h (load (Err fault)) l e = clash_none fault e
effect_to (idle stock ws) h (submit v x) l e = clash_none _ e
effect_to (idle stock ws) h tick' l e = clash_none _ e
effect_to (running p r ws) h (load file) l e = clash_none _ e
effect_to (running p r ws) h (submit v x) l e =
    let t = added_to (enter v x r) r.count (enter v x r).count ws (enter_more v x r) in
    (Ok r.count, running p (enter v x r) t.0, (t.0, t.1, refl, refl))
effect_to (running p r ws) h tick' l e =
    let t = ticked_by prompt p r ws (reached_lasts h) in
    (Ok (suc r.tick), running p (tick_by prompt p r) t.0, (tick_by prompt p r, t.0, t.1, refl, refl))

pub total : Total
total s h c l = answered_by s c (effect_to s h c l)
