-- A content has one answer.
use Rattle.std.proofs.Common.{◌≡◌, ℕ, ◌<◌, false, ◌⊎◌, List, ◌∷◌, Some, Ok, Err, Result, ap, ⊎_elim, arith}
use Rattle.graph.proofs.Joins.{all_mem}
use Rattle.coverage.specs.Coverage.{Uncovered, covered}
use Rattle.graph.specs.Graphs.{Pays, CutOff, Leaderless, Unled}
use Rattle.plan.specs.Check.{fault, Covered, Joins, Leads, Accepted, Refused, uncovered, cut_off, unled, Checked}
use Rattle.std.proofs.lemmas.Bool.{both_ways, cases_order}
use Rattle.swap.specs.Routes.{Reaches, Span}
use Rattle.swap.specs.Sets.{member}
use Rattle.swap.specs.declared.faults.Fault.{Fault}
use Rattle.swap.specs.declared.faults.Reason.TheVariants.{NotCovered, NotConnected, NoLeader}
use Rattle.swap.specs.declared.records.Holding.{Holding}
use Rattle.swap.specs.declared.records.Leg.{Leg}
use Rattle.swap.specs.declared.records.Terms.{Terms}

-- the lower of two numbers that are each the lowest with a property
lowest : (P : ℕ → Type 0) (a b : ℕ) → P a → P b → ((k : ℕ) → k < a → P k → ⊥) → ((k : ℕ) → k < b → P k → ⊥) → a ≡ b
lowest P a b p q la lb =
    ⊎_elim (λ e. e) (⊎_elim (λ h. absurd (lb a h p)) (λ h. absurd (la b h q))) (cases_order a b)

pub span_one : (P : ℕ → ℕ → Type 0) (n w v : ℕ) → Span P n w → Span P n v → w ≡ v
span_one P n w v s t =
    let a = t.most s.some.0 s.some.1 in
    let b = s.most t.some.0 t.some.1 in
    let x = s.some.3 in
    let y = t.some.3 in
    omega arith

module _ (terms : Terms) (holdings : List Holding) (legs : List Leg) where
  -- where all is well nobody is named
  covered_none : (i : ℕ) → Covered terms holdings legs → Uncovered holdings legs (Some i) → ⊥
  covered_none i c u = both_ways _ u.1 (c i u.0)

  joins_none : (p : ℕ) → Joins terms holdings legs → CutOff (Pays legs) terms.parties p → ⊥
  joins_none p j c =
      let e = c.exists in
      let h : 0 < terms.parties = omega arith in
      ⊎_elim (λ n. n (j 0 p h e)) (λ n. n (j p 0 e h)) c.apart

  leads_none : (p : ℕ) → Leads terms holdings legs → Unled (Pays legs) terms.parties terms.leaders.bits p → ⊥
  leads_none p l u =
      let c = u.cycle in
      let q = l c.from c.by c.cycle in
      both_ways (member terms.leaders.bits q.0)
      (all_mem (λ x. member terms.leaders.bits x ≡ false) q.0 (c.from ∷ c.by) c.none q.1) q.2

  accepted_refused : (w : ℕ) (f : Fault) → Accepted terms holdings legs w → Refused terms holdings legs f → ⊥
  accepted_refused w f a (uncovered i u) = covered_none i a.covered u
  accepted_refused w f a (cut_off p c u) = joins_none p a.connected u
  accepted_refused w f a (unled p c j u) = leads_none p a.led u

  refused_one : (f g : Fault) → Refused terms holdings legs f → Refused terms holdings legs g → f ≡ g
  refused_one f g (uncovered i u) (uncovered j v) =
      ap (fault NotCovered)
      (lowest (λ k. covered holdings legs k ≡ false) i j u.1 v.1
      (λ k h e. both_ways _ e (u.2 k h)) (λ k h e. both_ways _ e (v.2 k h)))
  refused_one f g (uncovered i u) (cut_off q c v) = absurd (covered_none i c u)
  refused_one f g (uncovered i u) (unled q c j v) = absurd (covered_none i c u)
  refused_one f g (cut_off p c u) (uncovered j v) = absurd (covered_none j c v)
  refused_one f g (cut_off p c u) (cut_off q d v) =
      ap (fault NotConnected)
      (lowest (λ k. (Reaches (Pays legs) 0 k → ⊥) ⊎ (Reaches (Pays legs) k 0 → ⊥)) p q u.apart v.apart
      (λ k h. ⊎_elim (λ n. n (u.lowest k h).0) (λ n. n (u.lowest k h).1))
      (λ k h. ⊎_elim (λ n. n (v.lowest k h).0) (λ n. n (v.lowest k h).1)))
  refused_one f g (cut_off p c u) (unled q d j v) = absurd (joins_none p j u)
  refused_one f g (unled p c i u) (uncovered j v) = absurd (covered_none j c v)
  refused_one f g (unled p c i u) (cut_off q d v) = absurd (joins_none q i v)
  refused_one f g (unled p c i u) (unled q d j v) =
      ap (fault NoLeader)
      (lowest (Leaderless (Pays legs) terms.leaders.bits) p q u.cycle v.cycle u.lowest v.lowest)

  pub checked_one : (a b : Result ℕ Fault) → Checked terms holdings legs a → Checked terms holdings legs b → a ≡ b
  checked_one (Ok w) (Ok v) p q = ap Ok (span_one (Pays legs) terms.parties w v p.spanned q.spanned)
  checked_one (Ok w) (Err g) p q = absurd (accepted_refused w g p q)
  checked_one (Err f) (Ok v) p q = absurd (accepted_refused v f q p)
  checked_one (Err f) (Err g) p q = ap Err (refused_one f g p q)
