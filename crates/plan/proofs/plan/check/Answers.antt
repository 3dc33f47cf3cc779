use Rattle.std.proofs.Common.{Some, None, sym, subst, ◌∙◌}
use Rattle.graph.proofs.Whole.{whole_span, whole_connects, whole_leads}
use Rattle.graph.specs.Graphs.{Inside}
use Rattle.plan.proofs.Exits.{refused_for, accepted_for}
use Rattle.plan.proofs.plan.check.Goals as goal
use Rattle.plan.specs.Check.{uncovered, cut_off, unled}

pub returns-in-Some : goal.returns-in-Some
returns-in-Some c =
    refused_for _ _ _ _ _ c.deref-2.ensures.value c.deref.ensures.value _ _ _ c.at.ensures.reason c.at.ensures.place (uncovered _ c.in-Some.ensures)

pub returns-in-Some-cut_off : goal.returns-in-Some-cut_off
returns-in-Some-cut_off c =
    let n = c.args.file.now.terms.parties in
    let within = subst (Inside n) (sym c.deref.ensures.value) c.requires.2 in
    refused_for _ _ _ _ _ c.deref-2.ensures.value c.deref.ensures.value
    _ _ _ c.at-in-Some-cut_off.ensures.reason (c.at-in-Some-cut_off.ensures.place ∙ c.from.ensures)
    (cut_off _ c.in_default.ensures
    (whole_connects c.deref.result.now n within c.requires.1 (Some c.in-Some-cut_off.party) c.in-Some-cut_off.ensures))

pub returns-in-Some-unled : goal.returns-in-Some-unled
returns-in-Some-unled c =
    let terms = c.args.file.now.terms in
    let legs = c.deref.result.now in
    let within = subst (Inside terms.parties) (sym c.deref.ensures.value) c.requires.2 in
    refused_for _ _ _ _ _ c.deref-2.ensures.value c.deref.ensures.value
    _ _ _ c.at-in-Some-unled.ensures.reason (c.at-in-Some-unled.ensures.place ∙ c.from-in-Some-unled.ensures)
    (unled _ c.in_default.ensures
    (whole_connects legs terms.parties within c.requires.1 None c.in_default-cut_off.ensures)
    (whole_leads legs terms.parties within c.requires.1 terms.leaders.bits (Some c.in-Some-unled.party) c.in-Some-unled.ensures))

pub returns : goal.returns
returns c =
    let terms = c.args.file.now.terms in
    let legs = c.deref.result.now in
    let within = subst (Inside terms.parties) (sym c.deref.ensures.value) c.requires.2 in
    accepted_for _ _ _ _ _ c.deref-2.ensures.value c.deref.ensures.value c.span.result
    record {
      covered = c.in_default.ensures;
      connected = whole_connects legs terms.parties within c.requires.1 None c.in_default-cut_off.ensures;
      led = whole_leads legs terms.parties within c.requires.1 terms.leaders.bits None c.in_default-unled.ensures;
      spanned = whole_span legs terms.parties within c.requires.1 c.span.result c.requires.0 c.span.ensures;
    }
