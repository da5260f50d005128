use Rattle.std.proofs.Common.{List, map, ap, ◌∙◌}
use Rattle.gg_fame5.specs.inside.Lane.{Laned, lane_machine}
use Rattle.gg_fame5.proofs.SharedLemmas.{IsSharing-started, machines-started}
use Rattle.gg_fame5.proofs.shared.Shared.from_state.Goals as goal

pub invariant_of-result : goal.invariant_of-result
invariant_of-result c =
    let lanes = c.in_ok-lanes.ensures {u = tt} in
    let slots = c.in_ok-slots.ensures {u = tt} in
    IsSharing-started c.args.program.circuit c.args.outs.now c.args.ratios.now c.args.states.items c.args.cycle c.in_ok-lanes.lanes.items c.in_ok-slots.slots lanes.lanes c.requires.some c.requires.few lanes.each slots.cycle slots.none

pub returns : goal.returns
returns c =
    ap (λ (l : List Laned). map (lane_machine c.args.program) l) (c.in_ok-lanes.ensures {u = tt}).lanes
    ∙ machines-started c.args.program c.args.outs.now c.args.ratios.now c.args.states.items c.args.cycle
