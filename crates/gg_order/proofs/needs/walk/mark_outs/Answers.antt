use Rattle.std.proofs.Common.{length, refl}
use Rattle.gg_flat.specs.Line.{value_at}
use Rattle.gg_order.proofs.NeedsLemmas.WalkLemmas.{AreOwn-none, AreOwn-more}
use Rattle.gg_order.proofs.needs.walk.mark_outs.Goals as goal

pub loop-place-init : goal.loop-place-init
loop-place-init c = AreOwn-none c.args.group.now (length c.args.marks.now) 0 c.args.marks.now c.requires.none refl

pub loop-place-preserved : goal.loop-place-preserved
loop-place-preserved c =
    let k = c.loop-place.place in
    AreOwn-more c.args.group.now (length c.args.marks.now) k c.one_mark.result (value_at c.args.group.now k) c.loop-place.marks c.add_mark.new.marks c.one_mark.ensures refl c.add_mark.ensures c.loop-place.invariant
