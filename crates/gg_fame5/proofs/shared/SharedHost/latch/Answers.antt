use Rattle.std.proofs.Common.{◌≡◌, ◌<◌, length, refl, subst, sym, ap, ◌∙◌, arith}
use Rattle.std.proofs.lemmas.List.{length-map}
use Rattle.gg_node.specs.Machine.{Machine}
use Rattle.gg_node.specs.inside.Step.{MayLatch}
use Rattle.gg_node.specs.Step.{with_latch}
use Rattle.gg_fame5.specs.inside.Lane.{lane_machine, latched_lane}
use Rattle.gg_fame5.specs.inside.Shared.{Sharing}
use Rattle.gg_fame5.proofs.SharedLemmas.{machine_of_lane, lane_turned, stepped, stepped_apart}
use Rattle.gg_fame5.proofs.shared.SharedHost.latch.Goals as goal

-- the thread has the turn
pub put-requires : goal.put-requires
put-requires c =
    let turn : c.args.self.now.turn ≡ c.args.thread = ap (λ (s : Sharing). s.turn) (sym c.self.view_is) ∙ c.if-self-thread.true in
    subst (λ (m : Machine). MayLatch m c.args.place c.args.value) (lane_turned c.args.self.now c.args.self.now c.args.thread refl refl turn c.requires.thread) c.requires.may

pub returns-then-self-thread-clause-step : goal.returns-then-self-thread-clause-step
returns-then-self-thread-clause-step c =
    let first = c.args.self.now in
    let turn : first.turn ≡ c.args.thread = ap (λ (s : Sharing). s.turn) (sym c.self.view_is) ∙ c.if-self-thread.true in
    stepped first first c.put.new.self c.args.thread (λ lane. latched_lane lane c.args.place c.args.value) (λ machine. with_latch machine c.args.place c.args.value) (λ lane. refl)
    refl refl turn c.requires.thread c.put.ensures.program c.put.ensures.lanes

-- another thread has it
pub keep-requires-clause-may : goal.keep-requires-clause-may
keep-requires-clause-may c =
    let first = c.args.self.now in
    let below : c.args.thread < length first.lanes = omega (arith, c.requires.thread, length-map first.lanes (lane_machine first.program)) in
    subst (λ (m : Machine). MayLatch m c.args.place c.args.value) (machine_of_lane first.program first.lanes c.args.thread below) c.requires.may

pub returns-else-self-thread-clause-step : goal.returns-else-self-thread-clause-step
returns-else-self-thread-clause-step c =
    stepped_apart c.args.self.now c.keep.new.self c.args.thread (λ lane. latched_lane lane c.args.place c.args.value) (λ machine. with_latch machine c.args.place c.args.value) (λ lane. refl)
    c.requires.thread c.keep.ensures.program c.keep.ensures.lanes
