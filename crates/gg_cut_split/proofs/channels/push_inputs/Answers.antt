use Rattle.std.proofs.Common.{◌≡◌, ◌+◌, ◌∙◌, [], ◌∷◌, ◌++◌, ap, arith}
use Rattle.gg_cut_plan.specs.declared.wires.Wire.{Wire}
use Rattle.gg_flat.specs.Line.{value_at}
use Rattle.gg_cut_plan.specs.Channels.{wire}
use Rattle.gg_cut_split.specs.inside.Spread.{given_wires}
use Rattle.gg_cut_split.proofs.NumberedLemmas.{numbered-pushed}
use Rattle.gg_cut_split.proofs.channels.push_inputs.Goals as goal

pub loop-place-preserved : goal.loop-place-preserved
loop-place-preserved c =
    numbered-pushed (given_wires c.args.givers.now) 0 c.args.ins.now c.loop-place.place 0 c.args.wires.now.items c.loop-place.wires.items c.push.new.self.items c.loop-place-test.true
    (c.in_ok-push.ensures.items ∙ ap (λ (w : Wire). c.loop-place.wires.items ++ w ∷ []) (c.to.ensures ∙ ap (λ p. wire (value_at c.args.ins.now c.loop-place.place) (value_at c.args.givers.now p) 0) (let same : c.loop-place.place ≡ 0 + c.loop-place.place = omega arith in same)))
    c.loop-place.invariant
