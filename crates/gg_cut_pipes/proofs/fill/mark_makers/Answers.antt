use Rattle.std.proofs.Common.{map}
use Rattle.gg_cut_plan.specs.declared.wires.Wire.{Wire}
use Rattle.gg_cut_pipes.proofs.TableLemmas.{filled-none, filled-next}
use Rattle.gg_cut_pipes.proofs.fill.mark_makers.Goals as goal

pub loop-place-init : goal.loop-place-init
loop-place-init c = filled-none (map (λ (w : Wire). w.signal) c.args.wires.now) (map (λ (w : Wire). w.producer) c.args.wires.now) c.args.makers.now

pub loop-place-preserved : goal.loop-place-preserved
loop-place-preserved c = filled-next c.args.wires.now c.loop-place.place c.args.makers.now c.loop-place.makers c.requires.once c.requires.known c.loop-place-test.true c.loop-place.invariant
