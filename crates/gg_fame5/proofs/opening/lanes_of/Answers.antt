use Rattle.std.proofs.Common.{rules, ◌≡◌, List, length, sym, ap, ◌∙◌, arith}
use Rattle.std.proofs.lemmas.List.{get_or_default, length_push}
use Rattle.std.proofs.lemmas.Iterator.Adapters.{YieldsList-from_vec}
use Rattle.std.proofs.lemmas.Iterator.Consumers.{YieldsList-turn, YieldsList-end}
use Rattle.gg_flat.specs.Streams.{state_in}
use Rattle.gg_node.specs.Machine.{no_state}
use Rattle.gg_fame5.specs.inside.Lane.{Laned}
use Rattle.gg_fame5.proofs.OpeningLemmas.{lanes_to, lanes-count, lanes-more}
use Rattle.gg_fame5.proofs.opening.lanes_of.Goals as goal

pub add_lane-requires-clause-below : goal.add_lane-requires-clause-below
add_lane-requires-clause-below c =
    let t = YieldsList-turn (YieldsList-from_vec {s = c.into_iter-state-iterator.result} c.args.states.items (search rules) (search rules)) c.loop-state.yielded c.loop-state.state-iterator c.loop-state.yielded_by c.next.result c.next.new.self c.in-Some.state c.in-Some.is c.next.ensures.steps in
    omega (arith, t.0, c.requires.states, ap (λ (l : List Laned). length l) c.loop-state.invariant.0, lanes-count c.args.program.now.circuit c.args.outs.now c.args.ratios.now c.args.states.items c.args.cycle (length c.loop-state.yielded))

pub loop-state-preserved : goal.loop-state-preserved
loop-state-preserved c =
    let circuit = c.args.program.now.circuit in
    let states = c.args.states.items in
    let n = length c.loop-state.yielded in
    let added = c.in_ok-add_lane.ensures {u = tt} in
    let t = YieldsList-turn (YieldsList-from_vec {s = c.into_iter-state-iterator.result} states (search rules) (search rules)) c.loop-state.yielded c.loop-state.state-iterator c.loop-state.yielded_by c.next.result c.next.new.self c.in-Some.state c.in-Some.is c.next.ensures.steps in
    let is : c.in-Some.state ≡ state_in states n = t.1 ∙ sym (get_or_default states n no_state c.in-Some.state t.0) in
    let more = lanes-more circuit c.args.outs.now c.args.ratios.now states c.args.cycle n c.loop-state.lanes.items c.add_lane.new.lanes.items c.in-Some.state c.loop-state.invariant.0 is added.lanes in (
      more ∙ ap (lanes_to circuit c.args.outs.now c.args.ratios.now states c.args.cycle) (sym (length_push c.loop-state.yielded c.in-Some.state)),
      added.each c.loop-state.invariant.1,
      omega (arith, c.loop-state.invariant.2, added.room),
    )

pub returns-clause-lanes : goal.returns-clause-lanes
returns-clause-lanes c =
    let states = c.args.states.items in
    let t = YieldsList-end (YieldsList-from_vec {s = c.into_iter-state-iterator.result} states (search rules) (search rules)) c.loop-state.yielded c.loop-state.state-iterator c.loop-state.yielded_by c.next.result c.next.new.self c.in-None.is c.next.ensures.steps in
    c.loop-state.invariant.0 ∙ ap (lanes_to c.args.program.now.circuit c.args.outs.now c.args.ratios.now states c.args.cycle) (t.1 ∙ c.requires.states)
