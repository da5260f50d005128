use Rattle.std.proofs.Common.{arith}
use Rattle.gg_cut_pipes.proofs.TableLemmas.{filled-none, filled-more}
use Rattle.gg_cut_pipes.proofs.fill.fill.Goals as goal

pub loop-place-init : goal.loop-place-init
loop-place-init c = filled-none c.args.places.now c.args.values.now c.args.table.now

pub loop-place-preserved : goal.loop-place-preserved
loop-place-preserved c =
    let known = c.requires.known c.loop-place.place 0 c.loop-place-test.true in
    filled-more c.args.places.now c.args.values.now c.loop-place.place c.args.table.now c.loop-place.table c.requires.once c.loop-place-test.true (omega (arith, known, c.loop-place.invariant.count)) c.loop-place.invariant
