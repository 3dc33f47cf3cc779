-- The law: after every call the promises hold, and paid and back are final.
use Rattle.std.proofs.Common.{◌≡◌, ℕ, Bool, true, false, cond, ◌&&◌, eqb, ltb, List, [], ◌∷◌, Some, None, Option, sym, refl, ap, ◌∙◌, subst, arith}
use Rattle.protocol.proofs.Books.{start_stock}
use Rattle.protocol.proofs.Complete.{ended_stays, Conform, Aims, aims_fresh, aims_step, complete}
use Rattle.protocol.proofs.Filing.{inv_tick}
use Rattle.protocol.proofs.Invariants.{Inv}
use Rattle.protocol.proofs.Holdings.{holdings}
use Rattle.protocol.proofs.Keeps.{inv_fresh, inv_step, inv_steps, atomic, ended, unfallen}
use Rattle.protocol.proofs.Queue.{Delivered, delivered, heard_all, Quiet, quiet_inv, steps_then}
use Rattle.protocol.proofs.Nevers.{nevers, pools}
use Rattle.protocol.proofs.Reach.{Lasting, reached_lasts}
use Rattle.protocol.proofs.Turns.{Turned, turned}
use Rattle.protocol.specs.Calls.{fresh, ticked, Call, load, submit, tick', Answer, handled, Ticked, refusal, Effect, Settled, Answered, Reached, after, History, ended as over, called}
use Rattle.protocol.specs.Law.{Law, Lawful, Histories, Rules, Begins}
use Rattle.protocol.specs.Parties.{file, enter}
use Rattle.protocol.specs.Promises.{Kept, Promises, Final}
use Rattle.protocol.specs.State.{Phase, Vacant, Held, Paid, Back, is_vacant, is_held, is_paid, is_back, Transaction, Run, State, idle, running}
use Rattle.protocol.specs.Steps.{outside, begins, signs, files, delivers, ticks, Steps, stop, then}
use Rattle.protocol.specs.Verdicts.{pending, deliver, handle}
use Rattle.swap.specs.Limits.{max_lines}
use Rattle.swap.specs.Swaps.{Swap, Sound}
use Rattle.swap.specs.declared.faults.Fault.{Fault}
use Rattle.swap.specs.declared.records.Holder.TheVariants.{Party}
use Rattle.swap.specs.declared.records.Waiting.{Waiting}

aims_steps : (p : Swap) → Sound p → Conform p → (o r : Run) → Inv p o → Aims p o → Steps p o r → Inv p r × Aims p r
aims_steps p s all o r i a (stop _) = (i, a)
aims_steps p s all o r i a (then {s = m} h g) =
    let k = aims_steps p s all o m i a h in
    (inv_step p s m r k.0 g, aims_step p s all m r k.0 k.1 g)

quiet_kept : (p : Swap) (r : Run) (ws : List Waiting) → Quiet p r ws → Kept p r
quiet_kept p r ws q =
    let s = q.sound in
    let i = quiet_inv p r ws q in
    record {
      complete = λ all t. complete p s all r i q.rested (aims_steps p s all (fresh p) r (inv_fresh p s) (aims_fresh p) q.steps).1 t;
      atomic = λ v c t. atomic p s r i q.rested v c t;
      ended = λ v c t. ended p s r i q.rested v c t;
      safe = λ v c t. unfallen p s r i q.rested v c t;
    }

lasting_kept : (s : State) → Lasting s → Promises s
lasting_kept (idle stock ws) q = tt
lasting_kept (running p r ws) q = quiet_kept p r ws q

pub law : Law
law s h = lasting_kept s (reached_lasts h)

-- what has ended stays as it is
handle_stays : (p : Swap) (n : ℕ) (r : Run) (i : ℕ) → is_vacant (r.escrow i).phase ≡ false → is_held (r.escrow i).phase ≡ false
    → (handle p n r).escrow i ≡ r.escrow i
unfolding handle
handle_stays p n r i a b = go (ltb n r.count && eqb (r.verdict n) pending)
  where
    go : (t : Bool) → (cond t (deliver p n r) r).escrow i ≡ r.escrow i
    go true = ended_stays p r n i a b
    go false = refl

heard_stays : (p : Swap) (ws : List Waiting) (r : Run) (i : ℕ) → is_vacant (r.escrow i).phase ≡ false → is_held (r.escrow i).phase ≡ false
    → (handled p ws r).escrow i ≡ r.escrow i
heard_stays p [] r i a b = refl
heard_stays p (w ∷ ws) r i a b =
    let k = handle_stays p w.number r i a b in
    heard_stays p ws (handle p w.number r) i (ap (λ e. is_vacant e.phase) k ∙ a) (ap (λ e. is_held e.phase) k ∙ b) ∙ k

-- the conforming parties' turns in a tick, as steps
turn_of : (p : Swap) (r s : Run) (ws rest : List Waiting) → (t : Ticked p r ws s rest) → Quiet p r ws
    → Delivered p (ticked r) (handled p t.handed (ticked r)) t.left × Turned p (handled p t.handed (ticked r)) s
turn_of p r s ws rest t q =
    let i = quiet_inv p r ws q in
    let heard = handled p t.handed (ticked r) in
    let d = delivered p (ticked r) t.drained q.queue (λ n h. let b = i.lines.before n h in omega arith) in
    let k = inv_steps p q.sound (ticked r) heard (inv_tick p r i q.rested) d.steps in
    let w = turned p q.sound heard k (heard_all p r heard ws t.left i q.rested d t.fresh) in
    (d, subst (Turned p heard) (sym t.filed) w)

tick_stays : (p : Swap) (r s : Run) (ws rest : List Waiting) → Ticked p r ws s rest → Quiet p r ws
    → (i : ℕ) → is_vacant (r.escrow i).phase ≡ false → is_held (r.escrow i).phase ≡ false → s.escrow i ≡ r.escrow i
tick_stays p r s ws rest t q i a b = ap (λ f. f i) (turn_of p r s ws rest t q).1.escrow ∙ heard_stays p t.handed (ticked r) i a b

paid_ended : (f : Phase) → is_paid f ≡ true → (is_vacant f ≡ false) × (is_held f ≡ false)
paid_ended Vacant h = (sym h, refl)
paid_ended Held h = (refl, sym h)
paid_ended Paid h = (refl, refl)
paid_ended Back h = (refl, refl)

back_ended : (f : Phase) → is_back f ≡ true → (is_vacant f ≡ false) × (is_held f ≡ false)
back_ended Vacant h = (sym h, refl)
back_ended Held h = (refl, sym h)
back_ended Paid h = (refl, refl)
back_ended Back h = (refl, refl)

same_final : (s : State) → Final s s
same_final (idle stock ws) = tt
same_final (running p r ws) = (refl, λ i h. h, λ i h. h)

final_then : (a b c : State) → Final a b → Final b c → Final a c
final_then (idle stock ws) b c f g = tt
final_then (running p r ws) (idle stock vs) c f g = absurd f
final_then (running p r ws) (running q s vs) (idle stock us) f g = absurd g
final_then (running p r ws) (running q s vs) (running o t us) f g = (g.0 ∙ f.0, λ i h. g.1 i (f.1 i h), λ i h. g.2 i (f.2 i h))

enter_final : (p : Swap) (r : Run) (ws : List Waiting) (v : ℕ) (x : Transaction) (vs : List Waiting)
    → Final (running p r ws) (running p (enter v x r) vs)
unfolding enter
enter_final p r ws v x vs = go (ltb r.count max_lines)
  where
    go : (b : Bool) → Final (running p r ws) (running p (cond b (file v x r) r) vs)
    go true = (refl, λ i e. e, λ i e. e)
    go false = (refl, λ i e. e, λ i e. e)

effect_final : (s : State) (c : Call) (a : Answer) (s' : State) → Lasting s → Effect s c a s' → Final s s'
effect_final (idle stock ws) c a s' k h = tt
effect_final (running p r ws) (load file) a s' k h = absurd h
effect_final (running p r ws) (submit v x) a s' k h = subst (Final (running p r ws)) (sym h.3) (enter_final p r ws v x h.0)
effect_final (running p r ws) tick' a s' k h = subst (Final (running p r ws)) (sym h.4) (
  refl,
  (λ i e. let d = paid_ended _ e in ap (λ y. is_paid y.phase) (tick_stays p r h.0 ws h.1 h.2 k i d.0 d.1) ∙ e),
  (λ i e. let d = back_ended _ e in ap (λ y. is_back y.phase) (tick_stays p r h.0 ws h.1 h.2 k i d.0 d.1) ∙ e),
)

pub call_final : (s : State) (c : Call) (a : Answer) (s' : State) → Reached s → Answered s c a s' → Final s s'
call_final s c a s' k h = go (refusal s c) h
  where
    go : (o : Option Fault) → Settled o s c a s' → Final s s'
    go (Some fault) t = subst (Final s) (sym t.1) (same_final s)
    go None t = effect_final s c a s' (reached_lasts k) t

-- what a public call keeps
pub call_kept : (s : State) (c : Call) (a : Answer) (s' : State) → Answered s c a s' → Reached s → Reached s' × Promises s' × Final s s'
call_kept s c a s' h k = let next : Reached s' = after c a k h in (next, law s' next, call_final s c a s' k h)

lawful_history : {s s' : State} {cs : List Call} {as' : List Answer} → History (λ _ _. Unit {0}) s cs as' s' → Reached s
    → History Lawful s cs as' s' × Reached s' × Final s s'
lawful_history {s} over k = (over, k, same_final s)
lawful_history (called {s} {s'} {s''} {c} {a} h u rest) k =
    let kept = call_kept s c a s' h k in
    let t = lawful_history rest kept.0 in
    (called h (kept.1, kept.2) t.0, t.1, final_then s s' s'' kept.2 t.2)

pub histories : Histories
histories s s' cs as' k h = lawful_history h k

pub rules : Rules
rules p r ws h =
    let q : Quiet p r ws = reached_lasts h in
    record {
      sound = q.sound;
      allowed = q.steps;
      rested = q.rested;
      ticks = λ s left t. let w = turn_of p r s ws left t q
          in (steps_then (steps_then (then (stop r) (ticks r q.rested)) w.0.steps) w.1.steps, w.1.rested);
    }

-- nothing is delivered at tick 0
unmoved : (p : Swap) (o r : Run) → (o.tick ≡ 0 → o.stock ≡ (fresh p).stock) → Steps p o r → r.tick ≡ 0 → r.stock ≡ (fresh p).stock
unfolding deliver
unmoved p o r k (stop _) = k
unmoved p o r k (then {s = m} h (outside _ v x a b c)) = unmoved p o m k h
unmoved p o r k (then {s = m} h (begins _ v c b e)) = unmoved p o m k h
unmoved p o r k (then {s = m} h (signs _ v lock q c e u e')) = unmoved p o m k h
unmoved p o r k (then {s = m} h (files _ v x c e n)) = unmoved p o m k h
unmoved p o r k (then {s = m} h (delivers _ n b e f)) = λ z. absurd (omega arith)
unmoved p o r k (then {s = m} h (ticks _ rest)) = λ z. absurd (omega arith)

pub begins_with : Begins
begins_with p r ws h z v l u =
    let q : Quiet p r ws = reached_lasts h in
    ap (λ f. f l (Party v) u) (unmoved p (fresh p) r (λ _. refl) q.steps z) ∙ start_stock p q.sound v l u

-- what is never refused
pub ruleset never = (nevers, pools, holdings, begins_with)
