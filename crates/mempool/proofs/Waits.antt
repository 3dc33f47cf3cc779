-- Lemmas on what waits.
use Rattle.std.proofs.Common.{◌≡◌, ℕ, zero, suc, ◌+◌, ◌<◌, ◌≤◌, Bool, true, false, cond, not, ◌||◌, eqb, ltb, refl, List, [], ◌∷◌, ◌++◌, length, get_or, Some, None, is_some, sym, ap, subst, arith}
use Rattle.std.proofs.lemmas.Bool.{or_parts, ltb-false}
use Rattle.std.proofs.lemmas.Bool.Decides.{nat_tests}
use Rattle.std.proofs.lemmas.List.Elements.{All-weaker}
use Rattle.std.specs.List.{remove, list_any, position, position_or_len, All}
use Rattle.swap.specs.declared.records.Waiting.{Waiting}
use Rattle.mempool.specs.Calls.{Taken, waits, older, Fresh, Oldest}
use Rattle.mempool.specs.Calls.Taken.{here, later}

push_taken : (w : Waiting) (ws : List Waiting) → Taken w (ws ++ w ∷ []) ws
push_taken w [] = here
push_taken w (v ∷ ws) = later (push_taken w ws)

remove_taken : (w : Waiting) (ws : List Waiting) (i : ℕ) → i < length ws → w ≡ get_or ws i w → Taken w ws (remove ws i)
remove_taken w [] i h e = absurd (omega arith)
remove_taken w (v ∷ ws) zero h e = subst (λ x. Taken w (x ∷ ws) ws) e here
remove_taken w (v ∷ ws) (suc i) h e = later (remove_taken w ws i (omega arith) e)

pub taken_push : {w : Waiting} {before after : List Waiting} → after ≡ before ++ w ∷ [] → Taken w after before
taken_push {w} {before} e = subst (λ ws. Taken w ws before) (sym e) (push_taken w before)

pub taken_remove : {w : Waiting} {before after : List Waiting} (i : ℕ) → i < length before → w ≡ get_or before i w → after ≡ remove before i
    → Taken w before after
taken_remove {w} {before} i h e r = subst (Taken w before) (sym r) (remove_taken w before i h e)

pub not_older : (v w : Waiting) → older v w ≡ false → w.tick ≤ v.tick
not_older v w e = ltb-false _ _ (or_parts _ _ e).0

pub list_any_waits : (n : ℕ) (ws : List Waiting) → waits n ws ≡ list_any (λ w. eqb n w.number) ws
list_any_waits n [] = refl
list_any_waits n (w ∷ ws) = ap (λ b. eqb n w.number || b) (list_any_waits n ws)

-- a number waits exactly if it has a place
pub waits_placed : (n : ℕ) (ws : List Waiting) → waits n ws ≡ is_some (position (λ w. eqb n w.number) ws)
waits_placed n [] = refl
waits_placed n (w ∷ ws) = step (eqb n w.number) (waits_placed n ws)
  where
    k : ℕ
    k = position_or_len (λ v. eqb n v.number) ws

    step : (b : Bool) → waits n ws ≡ is_some (cond (ltb k (length ws)) (Some k) None)
        → (b || waits n ws)
        ≡ is_some (cond (ltb (cond (not b) (1 + k) 0) (suc (length ws))) (Some (cond (not b) (1 + k) 0)) None)
    step true e = grind (arith, nat_tests)
    step false e = grind (arith, nat_tests, e)

-- where the oldest is fresh, all are
pub fresh_all : (w : Waiting) (ws : List Waiting) (tick delta : ℕ) → Oldest w ws → Fresh tick delta w → All (Fresh tick delta) ws
fresh_all w ws tick delta o f =
    All-weaker (λ v. older v w ≡ false) (Fresh tick delta) (λ v e. let le = not_older v w e in omega arith) ws o
