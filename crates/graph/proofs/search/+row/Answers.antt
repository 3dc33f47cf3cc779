use Rattle.std.proofs.Common.{◌+◌, false, set, sym, refl, subst, arith}
use Rattle.graph.proofs.Sizes.{free_lt}
use Rattle.graph.proofs.Steps.{Begun, passed, went, row_bound}
use Rattle.graph.proofs.search.+row.Goals as goal
use Rattle.graph.proofs.search.+row.Goals.{then-leg-x+then-to-lt-ROOM+then-free-to, else-leg-x, else-leg-x-via-then-leg-x+then-to-lt-ROOM+else-free-to, else-leg-x-via-then-leg-x+else-to-lt-ROOM, else-leg-x-via-else-leg-x}
use Rattle.graph.specs.Graphs.{Pays, leg_at}
use Rattle.std.proofs.lemmas.List.{length-set}
use Rattle.std.proofs.lemmas.Bool.{both_ways}

pub merged-best-requires : goal.merged-best-requires
merged-best-requires t c = λ y.
    let z = c.from-to.result in
    let h = row_bound (Pays c.args.legs.now) (set c.args.free z false) _ c.row.result c.row.ensures y in
    let e = length-set c.args.free z false in
    omega arith

pub loop-leg-preserved : goal.loop-leg-preserved
loop-leg-preserved t c =
    let legs = c.args.legs.now in
    let i = c.loop-leg.leg-index in
    let z = (leg_at legs i).receiver in
    let to = c.from-to.ensures in
    elim c.if-leg-x.branch [
      | then-leg-x+then-to-lt-ROOM+then-free-to w ↦
          subst (Begun legs c.args.free c.args.x (i + 1)) (sym w.best-is)
          (went legs c.args.free c.args.x i c.loop-leg.best c.loop-leg.invariant (omega arith)
          z w.if-leg-x.true refl (rw to at w.if-free-to.true)
          w.row.result w.merged-best.result (rw to at w.row.ensures) w.merged-best.ensures)
      | else-leg-x w ↦
          subst (Begun legs c.args.free c.args.x (i + 1)) (sym w.best-is)
          (passed legs c.args.free c.args.x i c.loop-leg.best c.loop-leg.invariant (λ p fr.
          elim w.else-leg-x.branch [
            | else-leg-x-via-then-leg-x+then-to-lt-ROOM+else-free-to w' ↦ both_ways _ w'.if-free-to.false (rw to fr)
            | else-leg-x-via-then-leg-x+else-to-lt-ROOM w' ↦ (let l = free_lt c.args.free z fr in omega arith)
            | else-leg-x-via-else-leg-x w' ↦ w'.if-leg-x.false p
          ]))
    ]
