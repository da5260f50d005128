use Rattle.std.proofs.Common.{◌+◌, ◌∙◌, set, sym, subst, ap, arith}
use Rattle.gg_flat.specs.Line.{value_at}
use Rattle.gg_cut_plan.specs.inside.Owners.{earlier}
use Rattle.gg_cut_plan.proofs.OwnerLemmas.{OwnersSoFar, OwnersSoFar-more}
use Rattle.gg_cut_plan.proofs.owners.fill_owners.Goals as goal

pub loop-place-preserved : goal.loop-place-preserved
loop-place-preserved c =
    subst (λ v. OwnersSoFar c.args.tree.now c.args.units.now (c.loop-place.place + 1) (set c.loop-place.owners c.loop-place.place v))
    (sym (c.earlier_of-owner.ensures ∙ ap (earlier (value_at c.loop-place.owners c.loop-place.place)) c.owner_above-above.ensures))
    (OwnersSoFar-more c.args.tree.now c.args.units.now c.loop-place.place c.loop-place.owners c.requires.parents (omega (arith, c.loop-place-test.true, c.len-place-end.ensures.count)) c.loop-place.invariant)
