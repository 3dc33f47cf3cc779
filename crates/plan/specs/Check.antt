-- When the content of a file is a plan, and which refusal it gets if it is none.
use Rattle.std.specs.Prelude.{ℕ, List, Some, None, Ok, Err, Result}
use Rattle.coverage.specs.Coverage.{Uncovered}
use Rattle.graph.specs.Graphs.{Pays, Connected, CutOff, Led, Unled}
use Rattle.swap.specs.Routes.{Span}
use Rattle.swap.specs.Sets.{member}
use Rattle.swap.specs.declared.faults.Fault.{Fault}
use Rattle.swap.specs.declared.faults.Reason.{Reason}
use Rattle.swap.specs.declared.faults.Reason.TheVariants.{NotCovered, NotConnected, NoLeader}
use Rattle.swap.specs.declared.records.Holding.{Holding}
use Rattle.swap.specs.declared.records.Leg.{Leg}
use Rattle.swap.specs.declared.records.Terms.{Terms}

abbrev pub fault : Reason → ℕ → Fault
fault reason place = record { reason = reason; place = place }

module _ (terms : Terms) (holdings : List Holding) (legs : List Leg) where
  abbrev pub Covered : Type 0
  Covered = Uncovered holdings legs None

  abbrev pub Joins : Type 0
  Joins = Connected (Pays legs) terms.parties

  abbrev pub Leads : Type 0
  Leads = Led (Pays legs) (member terms.leaders.bits)

  -- every leg is covered, every party reaches every other, every cycle holds a leader; and this is the span
  pub record Accepted (span : ℕ) : Type 0 where
    pub covered : Covered
    pub connected : Joins
    pub led : Leads
    pub spanned : Span (Pays legs) terms.parties span

  -- the first of the three that fails, with the lowest leg or party
  pub data Refused : Fault → Type 0 where
    uncovered : (i : ℕ) → Uncovered holdings legs (Some i) → Refused (fault NotCovered i)
    cut_off : (p : ℕ) → Covered → CutOff (Pays legs) terms.parties p → Refused (fault NotConnected p)
    unled : (p : ℕ) → Covered → Joins → Unled (Pays legs) terms.parties terms.leaders.bits p → Refused (fault NoLeader p)

  -- the answer of the plan check: the span, or the one refusal
  abbrev pub Checked : Result ℕ Fault → Type 0
  Checked (Ok span) = Accepted span
  Checked (Err f) = Refused f
