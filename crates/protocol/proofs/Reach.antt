-- What holds after every call.
use Rattle.std.proofs.Common.{◌≡◌, ℕ, Bool, true, false, not, leb, List, [], Some, None, Ok, Err, Option, sym, refl, ap, ◌∙◌, subst, arith}
use Rattle.protocol.specs.Law.{Timeless, bare, Single, NoneRefused}
use Rattle.protocol.proofs.Keeps.{inv_step}
use Rattle.protocol.proofs.Queue.{Quiet, quiet_inv, taken_up, submitted, tick_done}
use Rattle.protocol.proofs.Room.{journal_room}
use Rattle.protocol.proofs.Turns.{entered}
use Rattle.protocol.specs.Calls.{Added, Call, load, submit, tick', Answer, proper, outsiders, over, refuse, refusal, Effect, Settled, Answered, Reached, new, after}
use Rattle.protocol.specs.Parties.{file, enter}
use Rattle.protocol.specs.State.{Transaction, Run, State, idle, running}
use Rattle.protocol.specs.Steps.{outside}
use Rattle.std.proofs.lemmas.Bool.{not-false, leb-false}
use Rattle.swap.specs.Limits.{outsider_lines}
use Rattle.swap.specs.Swaps.{Swap}
use Rattle.swap.specs.declared.faults.Fault.{Fault}
use Rattle.swap.specs.declared.records.Waiting.{Waiting}

abbrev pub Lasting : State → Type 0
Lasting (idle stock ws) = Unit {0}
Lasting (running p r ws) = Quiet p r ws

-- what is not refused fails the test
not_refused : (b : Bool) (fault : Fault) (o : Option Fault) → refuse b fault o ≡ None → (b ≡ false) × (o ≡ None)
not_refused true fault o e = grind arith
not_refused false fault o e = (refl, e)

-- an outsider's filing that is not refused
pub filed : (p : Swap) (r : Run) (ws left : List Waiting) (v : ℕ) (x : Transaction) → Quiet p r ws
    → refusal (running p r ws) (submit v x) ≡ None
    → (a : Added (enter v x r) r.count (enter v x r).count ws left) → Quiet p (enter v x r) left × NoneRefused a
filed p r ws left v x k e =
    let e1 = not_refused (over p r) _ _ e in
    let e2 = not_refused (not (p.outsider v)) _ _ e1.1 in
    let e3 = not_refused (leb outsider_lines (outsiders p r)) _ _ e2.1 in
    let e4 = not_refused (not (proper p x)) _ _ e3.1 in
    let o = not-false _ e2.0 in
    let few = leb-false _ _ e3.0 in
    let ok = not-false _ e4.0 in
    let room = journal_room p k.sound (file v x r) (inv_step p k.sound r (file v x r) (quiet_inv p r ws k) (outside r v x o few ok)) in
    subst (λ y. (a : Added y r.count y.count ws left) → Quiet p y left × NoneRefused a) (sym (entered v x r room))
    (λ a. submitted p r ws left v x o few ok a k)

-- an effect keeps it
effect_lasts : (s : State) (c : Call) (a : Answer) (s' : State) → Lasting s → refusal s c ≡ None → Effect s c a s' → Lasting s'
effect_lasts (idle stock ws) (load (Ok p)) a s' k e h = subst Lasting (sym h.4) (taken_up p h.0 h.1 h.2).0
effect_lasts (idle stock ws) (load (Err fault)) a s' k e h = absurd h
effect_lasts (idle stock ws) (submit v x) a s' k e h = absurd h
effect_lasts (idle stock ws) tick' a s' k e h = absurd h
effect_lasts (running p r ws) (load file) a s' k e h = absurd h
effect_lasts (running p r ws) (submit v x) a s' k e h = subst Lasting (sym h.3) (filed p r ws h.0 v x k e h.1).0
effect_lasts (running p r ws) tick' a s' k e h = subst Lasting (sym h.4) (tick_done p r h.0 ws h.1 h.2 k).0

pub call_lasts : (s : State) (c : Call) (a : Answer) (s' : State) → Lasting s → Answered s c a s' → Lasting s'
call_lasts s c a s' k h = go (refusal s c) refl h
  where
    go : (o : Option Fault) → refusal s c ≡ o → Settled o s c a s' → Lasting s'
    go (Some fault) e t = subst Lasting (sym t.1) k
    go None e t = effect_lasts s c a s' k e t

pub reached_lasts : {s : State} → Reached s → Lasting s
reached_lasts (new stock ws) = tt
reached_lasts (after {s} {s'} c a r h) = call_lasts s c a s' (reached_lasts r) h

-- a call has one answer
effect_single : (s s' s'' : State) (c : Call) (a b : Answer) → Effect s c a s' → Effect s c b s''
    → (a ≡ b) × (Timeless c → bare s' ≡ bare s'')
effect_single (idle stock ws) s' s'' (load (Ok p)) a b h k =
    (h.3 ∙ sym k.3, λ _. ap bare h.4 ∙ ap (λ r. running p r []) (h.2.filed ∙ sym k.2.filed) ∙ sym (ap bare k.4))
effect_single (idle stock ws) s' s'' (load (Err fault)) a b h k = absurd h
effect_single (idle stock ws) s' s'' (submit v x) a b h k = absurd h
effect_single (idle stock ws) s' s'' tick' a b h k = absurd h
effect_single (running p r ws) s' s'' (load file) a b h k = absurd h
effect_single (running p r ws) s' s'' (submit v x) a b h k = (h.2 ∙ sym k.2, λ _. ap bare h.3 ∙ sym (ap bare k.3))
effect_single (running p r ws) s' s'' tick' a b h k = (h.3 ∙ sym k.3, λ t. absurd t)

pub single : Single
single s s' s'' c a b h k = go (refusal s c) h k
  where
    go : (o : Option Fault) → Settled o s c a s' → Settled o s c b s'' → (a ≡ b) × (Timeless c → bare s' ≡ bare s'')
    go (Some fault) h k = (h.0 ∙ sym k.0, λ _. ap bare (h.1 ∙ sym k.1))
    go None h k = effect_single s s' s'' c a b h k
