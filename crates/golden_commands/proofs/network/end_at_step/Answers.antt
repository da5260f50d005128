use Rattle.std.proofs.Common.{ap, ◌∙◌}
use Rattle.gg_replay.specs.steps_file.Cause.{cause_text}
use Rattle.golden_commands.proofs.NetLemmas.{made-said, step-line}
use Rattle.golden_commands.proofs.network.end_at_step.Goals as goal

pub returns-in-Ok : goal.returns-in-Ok
returns-in-Ok c =
    made-said c.make_refusal.result c.end_with.result _ _
    (step-line c.as_str.result.now c.as_str-in-Ok.result.now _ c.args.step (c.as_str.ensures.value ∙ c.in-Ok.ensures.0)
    (c.as_str-in-Ok.ensures.value ∙ c.in-Ok.ensures.1 ∙ ap (λ e. cause_text c.args.names.now e c.args.cause) c.event_at.ensures))
    c.end_with.ensures c.make_refusal.ensures
