use Rattle.std.proofs.Common.{◌≡◌, ◌<◌, List, length, refl, sym, ap, ◌∙◌, arith}
use Rattle.std.specs.Prelude.{slice_set}
use Rattle.std.proofs.lemmas.List.{length-map, length-set}
use Rattle.gg_flat.specs.State.{State}
use Rattle.gg_node.specs.Machine.{Machine, machine_at}
use Rattle.gg_node.specs.Step.{finished}
use Rattle.gg_fame5.specs.inside.Lane.{Laned, lane_machine, finished_lane}
use Rattle.gg_fame5.specs.inside.Shared.{lane_at, machines_of}
use Rattle.gg_fame5.proofs.SharedLemmas.{machine_of_lane, stepped}
use Rattle.gg_fame5.proofs.shared.Shared.finish_by.Goals as goal

pub returns-clause-step : goal.returns-clause-step
returns-clause-step g c =
    let first = c.args.self.now in
    let turned = c.turn_to.new.self in
    let after = c.next.new.self in
    let t = c.args.thread in
    let next : State = (lane_at after.lanes turned.turn).state in
    let below : t < length after.lanes =
    omega (arith, c.requires.thread, length-map first.lanes (lane_machine first.program), ap (λ (l : List Laned). length l) c.turn_to.ensures.lanes, ap (λ (l : List Laned). length l) c.next.ensures.lanes, length-set turned.lanes turned.turn (finished_lane (lane_at turned.lanes turned.turn) next)) in
    let same : next ≡ (machine_at (machines_of after) t).state = ap (λ k. (lane_at after.lanes k).state) c.turn_to.ensures.turn ∙ ap (λ (m : Machine). m.state) (sym (machine_of_lane after.program after.lanes t below)) in
    stepped first turned after t (λ lane. finished_lane lane next) (λ machine. finished machine next) (λ lane. refl) c.turn_to.ensures.program c.turn_to.ensures.lanes c.turn_to.ensures.turn c.requires.thread c.next.ensures.program c.next.ensures.lanes
    ∙ ap (λ (s : State). slice_set (machines_of first) t (finished (machine_at (machines_of first) t) s)) same
