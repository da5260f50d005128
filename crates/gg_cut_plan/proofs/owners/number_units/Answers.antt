use Rattle.std.proofs.Common.{◌≡◌, ◌∙◌, ◌+◌, suc, set, sym, ap, subst, arith}
use Rattle.gg_flat.specs.Line.{value_at}
use Rattle.gg_cut_plan.proofs.OwnerLemmas.{Numbered, Numbered-kept, Numbered-new}
use Rattle.gg_cut_plan.proofs.owners.number_units.Goals as goal
use Rattle.gg_cut_plan.proofs.owners.number_units.Goals.{then-owners-unit-eq0, else-owners-unit-eq0}

pub loop-number-preserved : goal.loop-number-preserved
loop-number-preserved c =
    elim c.if-owners-unit-eq0.branch [
      | then-owners-unit-eq0 w ↦
          let room = c.requires.known c.loop-number.number 0 c.loop-number-test.true in
          subst (Numbered c.args.units.now (c.loop-number.number + 1) c.args.owners.now)
          (sym (w.owners-is ∙ ap (set c.loop-number.owners (value_at c.args.units.now c.loop-number.number)) (w.unit.ensures ∙ (let same : suc c.loop-number.number ≡ c.loop-number.number + 1 = omega arith in same))))
          (Numbered-new c.args.units.now c.loop-number.number c.args.owners.now c.loop-number.owners c.loop-number-test.true c.loop-number.invariant (omega (arith, room, c.loop-number.invariant.count)) w.if-owners-unit-eq0.true)
      | else-owners-unit-eq0 w ↦
          subst (Numbered c.args.units.now (c.loop-number.number + 1) c.args.owners.now) (sym w.owners-is)
          (Numbered-kept c.args.units.now c.loop-number.number c.args.owners.now c.loop-number.owners c.loop-number-test.true c.loop-number.invariant w.if-owners-unit-eq0.false)
    ]
