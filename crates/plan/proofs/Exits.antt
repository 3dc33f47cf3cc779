-- What `Plan::read` and the plan check answer at each of their exits.
use Rattle.std.proofs.Common.{◌≡◌, ℕ, List, Ok, Err, Result, sym, refl, ap, ap₂, ◌∙◌, subst, subst₂, inl, inr}
use Rattle.plan.proofs.Facts.{sound, one_meaning}
use Rattle.plan.specs.Check.{fault, Accepted, Refused}
use Rattle.plan.specs.Meaning.{Means, TheAnswer, swap_in}
use Rattle.plan.specs.Plans.{Reads}
use Rattle.plan.specs.declared.plan.Plan.{Plan}
use Rattle.swap.specs.Swaps.{Sound}
use Rattle.swap.specs.declared.faults.Fault.{Fault}
use Rattle.swap.specs.declared.faults.Reason.{Reason}
use Rattle.swap.specs.declared.records.Holding.{Holding}
use Rattle.swap.specs.declared.records.Leg.{Leg}
use Rattle.swap.specs.declared.records.Terms.{Terms}
use Rattle.swapfile.proofs.Rules.{ruled}
use Rattle.swapfile.specs.Files.{Content, Answer}
use Rattle.swapfile.specs.Reads.{Reading}
use Rattle.swapfile.specs.declared.refusal.Refusal.{Refusal}
use Rattle.swapfile.specs.declared.refusal.Refusal.TheVariants as refusal

the_answer : (bytes : List ℕ) (a : _) → Means bytes a → TheAnswer bytes a
the_answer bytes a m = record { means = m; only = λ o n. one_meaning bytes o a n m }

-- the file is refused
pub file_refused : (bytes : List ℕ) (r : Result Plan Refusal) (e d : Refusal) → r ≡ Err e → e ≡ d → Reading bytes (Err d) → Reads bytes r
file_refused bytes r e d p q a = subst (Reads bytes) (sym (p ∙ ap Err q)) (go d a)
  where
    go : (d : Refusal) → Reading bytes (Err d) → Reads bytes (Err d)
    go (refusal.Fault f) a = the_answer bytes (Err f) (inl a)
    go refusal.Memory a = tt

module _ (bytes : List ℕ) (c : Content) (a : Answer bytes (Ok c)) where
  -- its plan is refused
  pub plan_refused : (r : Result Plan Refusal) (e : Refusal) (f : Fault) → r ≡ Err e → e ≡ refusal.Fault f → Refused c.terms c.holdings c.legs f → Reads bytes r
  plan_refused r e f p q k = subst (Reads bytes) (sym (p ∙ ap Err q)) (the_answer bytes (Err f) (inr (c, a, k)))

  -- its plan is accepted
  pub plan_accepted : (span : ℕ) → Accepted c.terms c.holdings c.legs span → TheAnswer bytes (Ok (swap_in c span)) × Sound (swap_in c span)
  plan_accepted span k = (the_answer bytes (Ok (swap_in c span)) (c, span, a, k, refl), sound c (ruled bytes c a) span k)

-- What the plan check answers, said of the lists that it was given instead of the file's.
module _ (terms : Terms) (holdings holdings' : List Holding) (legs legs' : List Leg) (like : holdings ≡ holdings') (same : legs ≡ legs') where
  pub refused_for : (f : Fault) (reason : Reason) (place : ℕ) → f.reason ≡ reason → f.place ≡ place
      → Refused terms holdings legs (fault reason place) → Refused terms holdings' legs' f
  refused_for f reason place p q k =
      subst (Refused terms holdings' legs') (sym (ap₂ fault p q))
      (subst₂ (λ h l. Refused terms h l (fault reason place)) like same k)

  pub accepted_for : (span : ℕ) → Accepted terms holdings legs span → Accepted terms holdings' legs' span
  accepted_for span = subst₂ (λ h l. Accepted terms h l span) like same
