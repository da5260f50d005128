use Rattle.std.proofs.Common.{List, ℕ, inl, refl, subst}
use Rattle.gg_io.specs.Ends.{puts_of}
use Rattle.gg_io.specs.inside.Endings.{PrintsOrStops}
use Rattle.gg_io.proofs.EndingLemmas.{IfRefused-map, exit-is, judged-ends, judged-map, stopped-ends}
use Rattle.golden_commands.specs.Partition.{to_run}
use Rattle.golden_commands.specs.inside.Stepped.{IsToldText, TellsToldStep}
use Rattle.golden.proofs.SteppedLemmas.{by-ending, ended-other, load-other, steps-behind, untold-behind}
use Rattle.golden.proofs.replay.replay_steps.Goals as goal

pub replay_bytes-requires-clause-fed : goal.replay_bytes-requires-clause-fed
replay_bytes-requires-clause-fed g c κs within = c.requires.fed

pub returns-in_err-bytes-clause-ended : goal.returns-in_err-bytes-clause-ended
returns-in_err-bytes-clause-ended g c = λ circuit partition trace capacity is.
    stopped-ends refl (exit-is c.from_residual.ensures.1) (IfRefused-map (λ said h. inl (inl h)) c.in_err-bytes.field-0.0 c.in_err-bytes.ensures.refused)

pub returns-clause-ended : goal.returns-clause-ended
returns-clause-ended g c = λ circuit partition trace capacity is.
    judged-ends (record { held = c.in_ok-bytes.ensures.held; within = c.in_ok-bytes.ensures.within })
    (judged-map (λ text told. told.of_steps) (λ said told. told.of_steps)
    (subst
    (λ (b : List ℕ). PrintsOrStops (puts_of g.K.Sink c.args.out.now c.replay_bytes.new.out) (IsToldText (to_run c.args.models.now) circuit partition trace capacity b) (TellsToldStep (to_run c.args.models.now) circuit partition trace capacity b) c.replay_bytes.result)
    c.as_slice.ensures.value (c.replay_bytes.ensures.ended circuit partition trace capacity is)))

pub returns-in_err-bytes-clause-network : goal.returns-in_err-bytes-clause-network
returns-in_err-bytes-clause-network g c = λ circuit partition trace capacity is.
    untold-behind (by-ending (exit-is c.from_residual.ensures.1) (ended-other c.in_err-bytes.field-0.0 (λ said h. load-other _ _ h) c.in_err-bytes.ensures.refused))

pub returns-clause-network : goal.returns-clause-network
returns-clause-network g c = λ circuit partition trace capacity is.
    steps-behind c.in_ok-bytes.bytes.items (record { held = c.in_ok-bytes.ensures.held; within = c.in_ok-bytes.ensures.within })
    (subst
    (λ (b : List ℕ). PrintsOrStops (puts_of g.K.Sink c.args.out.now c.replay_bytes.new.out) (IsToldText (to_run c.args.models.now) circuit partition trace capacity b) (TellsToldStep (to_run c.args.models.now) circuit partition trace capacity b) c.replay_bytes.result)
    c.as_slice.ensures.value (c.replay_bytes.ensures.ended circuit partition trace capacity is))
