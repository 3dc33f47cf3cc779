-- Lemmas on taking one out of what waits, and one after another.
use Rattle.std.proofs.Common.{◌≡◌, ℕ, suc, true, not, ◌&&◌, ◌||◌, eqb, List, [], ◌∷◌, ◌++◌, length, Some, Option, sym, refl, ap, subst, arith, Bool, false}
use Rattle.std.proofs.lemmas.Bool.{and_parts}
use Rattle.std.proofs.lemmas.List.Elements.{All-head, All-tail, All-cons}
use Rattle.std.specs.Iterator.{Yields}
use Rattle.std.specs.List.{All}
use Rattle.swap.proofs.Tests.{eqb_comm}
use Rattle.swap.specs.Routes.{distinct}
use Rattle.swap.specs.declared.records.Waiting.{Waiting}
use Rattle.mempool.specs.Calls.{Taken, Drained, numbers, waits}
use Rattle.mempool.specs.Calls.Taken.{here, later}
use Rattle.mempool.specs.Calls.Drained.{none, more}

pub taken_length : {w : Waiting} {ws rest : List Waiting} → Taken w ws rest → length ws ≡ suc (length rest)
taken_length here = refl
taken_length (later t) = ap suc (taken_length t)

-- what holds of all holds of the one and of the rest
pub taken_all : (P : Waiting → Type 0) {w : Waiting} {ws rest : List Waiting} → Taken w ws rest → All P ws → P w × All P rest
taken_all P here a = (All-head P _ _ a, All-tail P _ _ a)
taken_all P (later t) a = let r = taken_all P t (All-tail P _ _ a) in (r.0, All-cons P _ _ (All-head P _ _ a) r.1)

-- and the other way
pub all_taken : (P : Waiting → Type 0) {w : Waiting} {ws rest : List Waiting} → Taken w ws rest → P w → All P rest → All P ws
all_taken P here p a = All-cons P _ _ p a
all_taken P (later t) p a = All-cons P _ _ (All-head P _ _ a) (all_taken P t p (All-tail P _ _ a))

-- a number waits if it is that of the one, or waits among the rest
pub taken_waits : {w : Waiting} {ws rest : List Waiting} (n : ℕ) → Taken w ws rest → waits n ws ≡ (eqb n w.number || waits n rest)
taken_waits n here = refl
taken_waits n (later t) = grind (arith, taken_waits n t)

-- neither a nor b, and not c but d: b and c may change places
swap_and : (a b c d : Bool) → (not (a || b) && (not c && d)) ≡ (not (a || c) && (not b && d))
swap_and true b c d = refl
swap_and false true true d = refl
swap_and false true false d = refl
swap_and false false true d = refl
swap_and false false false d = refl

-- numbers are apart if the rest's are and the one's is not among them
pub taken_apart : {w : Waiting} {ws rest : List Waiting} → Taken w ws rest
    → distinct (numbers ws) ≡ (not (waits w.number rest) && distinct (numbers rest))
taken_apart here = refl
taken_apart {w} (later {v} t) = grind (arith, taken_waits v.number t, taken_apart t, eqb_comm v.number w.number)

pub taken_here : {w : Waiting} {ws rest : List Waiting} → Taken w ws rest → waits w.number ws ≡ true
taken_here {w} t = grind (arith, taken_waits w.number t)

-- where numbers are apart, the number says which
pub taken_same : {v w : Waiting} {ws a b : List Waiting} → Taken v ws a → Taken w ws b → distinct (numbers ws) ≡ true → v.number ≡ w.number
    → (v ≡ w) × (a ≡ b)
taken_same here here apart e = (refl, refl)
taken_same here (later t) apart e = absurd (grind (arith, taken_here t))
taken_same (later t) here apart e = absurd (grind (arith, taken_here t))
taken_same (later {v = u} t) (later s) apart e = let r = taken_same t s (and_parts _ _ apart).1 e in (r.0, ap (λ ws. u ∷ ws) r.1)

pub drained_none : {taken ws : List Waiting} → taken ≡ [] → Drained taken ws ws
drained_none {taken} {ws} e = subst (λ xs. Drained xs ws ws) (sym e) none

push_drained : {w : Waiting} {taken before between after : List Waiting} → Drained taken before between → Taken w between after
    → Drained (taken ++ w ∷ []) before after
push_drained none t = more t none
push_drained (more u d) t = more u (push_drained d t)

pub drained_push : {w : Waiting} {taken taken' before between after : List Waiting} → Drained taken before between → Taken w between after
    → taken' ≡ taken ++ w ∷ [] → Drained taken' before after
drained_push {before} {after} d t e = subst (λ xs. Drained xs before after) (sym e) (push_drained d t)

module _ {S : Type 0} (steps : S → Option Waiting → S → Type 0) (w : Waiting) where
  push_yields : (taken : List Waiting) (s t u : S) → Yields steps s taken t → steps t (Some w) u → Yields steps s (taken ++ w ∷ []) u
  push_yields [] s t u same step = (u, subst (λ x. steps x (Some w) u) (sym same) step, refl)
  push_yields (v ∷ taken) s t u (next, first, rest) step = (next, first, push_yields taken next t u rest step)

  pub yields_push : (taken taken' : List Waiting) (s t u : S) → Yields steps s taken t → steps t (Some w) u → taken' ≡ taken ++ w ∷ []
      → Yields steps s taken' u
  yields_push taken taken' s t u y step e = subst (λ xs. Yields steps s xs u) (sym e) (push_yields taken s t u y step)

-- a number waits before if it is taken or waits after
pub drained_waits : {taken before after : List Waiting} (n : ℕ) → Drained taken before after
    → waits n before ≡ (waits n taken || waits n after)
drained_waits n none = refl
drained_waits n (more t d) = grind (arith, taken_waits n t, drained_waits n d)

-- where numbers are apart, those taken are, and those left
pub drained_apart : {taken before after : List Waiting} → Drained taken before after → distinct (numbers before) ≡ true
    → (distinct (numbers taken) ≡ true) × (distinct (numbers after) ≡ true)
drained_apart none apart = (refl, apart)
drained_apart (more {w} t d) apart = grind (arith, taken_apart t, drained_waits w.number d, drained_apart d)

-- the steps of a drain
pub ruleset draining = (drained_none, drained_push, yields_push, taken_length)
