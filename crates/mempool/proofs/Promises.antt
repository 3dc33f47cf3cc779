-- The laws of specs/Laws.antt.
use Rattle.std.proofs.Common.{◌≡◌, ◌<◌, ◌≤◌, false, List, length, Some, None, Ok, Err, sym, subst, arith, ⊎_elim}
use Rattle.swap.specs.Limits.{max_lines}
use Rattle.swap.specs.declared.records.Waiting.{Waiting}
use Rattle.mempool.specs.Calls.{Taken, waits, Submitted, Handed, older}
use Rattle.mempool.specs.Laws.{Kept, Apart, Few, OneOldest}
use Rattle.mempool.specs.declared.refusal.Refusal.TheVariants.{Full, Duplicate}
use Rattle.mempool.proofs.Keeping.{taken_length, taken_all, taken_apart, taken_same}
use Rattle.std.proofs.lemmas.Bool.{and_cases, or_parts, eqb-false, ltb-false}

module _ (P : List Waiting → Type 0)
    (added : (w : Waiting) (before after : List Waiting) → length before < max_lines → waits w.number before ≡ false → Taken w after before
    → P before → P after)
    (taken : (w : Waiting) (before after : List Waiting) → Taken w before after → P before → P after) where
  submit_keeps : (w : Waiting) (r : _) (before after : List Waiting) → Submitted w r before after → P before → P after
  submit_keeps w (Ok done) before after s p = added w before after s.0 s.1 s.2 p
  submit_keeps w (Err Full) before after s p = subst P (sym s.1) p
  submit_keeps w (Err Duplicate) before after s p = subst P (sym s.2) p

  take_keeps : (tick delta : _) (r : _) (before after : List Waiting) → Handed tick delta r before after → P before → P after
  take_keeps tick delta (Some w) before after h p = taken w before after h p
  take_keeps tick delta None before after h p = subst P (sym h.0) p

  keeps : Kept P
  keeps = record { submit = submit_keeps; take = take_keeps }

pub kept_apart : Kept Apart
kept_apart =
    keeps Apart (λ w before after room new t a. grind (arith, taken_apart t)) (λ w before after t a. grind (arith, taken_apart t))

pub kept_few : Kept Few
kept_few =
    keeps Few (λ w before after room new t few. omega (arith, taken_length t)) (λ w before after t few. omega (arith, taken_length t))

-- of two with one tick, one that is not older has no lower number
not_lower : (v w : Waiting) → older v w ≡ false → v.tick ≡ w.tick → w.number ≤ v.number
not_lower v w e same = ⊎_elim (λ h. absurd (eqb-false _ _ h same)) (λ h. ltb-false _ _ h) (and_cases _ _ (or_parts _ _ e).1)

pub one_oldest : OneOldest
one_oldest v w before after after' apart t u first first' =
    let a : older w v ≡ false = (taken_all (λ x. older x v ≡ false) u first).0 in
    let b : older v w ≡ false = (taken_all (λ x. older x w ≡ false) t first').0 in
    taken_same t u apart (grind (arith, a, b))
