use Rattle.std.proofs.Common.{map, sym, ◌∙◌, ap, take_all}
use Rattle.gg_part.specs.PartRun.{ratio_at}
use Rattle.gg_cut_plan.proofs.RatioLemmas.{some-ratios}
use Rattle.gg_cut_plan.proofs.ratios.part_ratios.Goals as goal

pub returns : goal.returns
returns c =
    c.loop-clock.invariant
    ∙ ap (map (ratio_at c.args.ratios.now)) (take_all c.loop-clock.clock-index c.args.clocks.now c.loop-clock-test.false)
    ∙ sym (some-ratios c.args.clocks.now c.args.ratios.now (c.if-is_empty.ensures {u = tt}))
