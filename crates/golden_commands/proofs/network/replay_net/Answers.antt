use Rattle.std.proofs.Common.{refl, ap, ◌∙◌, subst}
use Rattle.gg_replay.specs.inside.Log.{opening_log}
use Rattle.gg_replay.specs.inside.Stopping.{IsStop}
use Rattle.gg_replay.specs.declared.fault.ReplayFault.{ReplayFault}
use Rattle.gg_io.specs.inside.Endings.{PrintsText}
use Rattle.golden_commands.specs.inside.Replayed.{fed_start}
use Rattle.golden_commands.proofs.NetLemmas.{opening-right, replay-run, replay-zeros, wires-stay, net-goes, net-stopped, told-so}
use Rattle.golden_commands.proofs.network.replay_net.Goals as goal

pub replay-requires-clause-logged : goal.replay-requires-clause-logged
replay-requires-clause-logged g c κs within =
    let fed = c.args.fed.now in
    let replay = c.requires.run in
    opening-right fed.case.cut.plan (fed_start fed) fed.trace.columns fed.trace.rows g.Z.Streams.flow replay.run c.in_ok-net.net (c.in_ok-net.ensures (fed_start fed) replay.run (replay-zeros replay)) refl
    c.in_ok-log.log c.shape.result.now.wires.items c.kept.ensures c.shape.ensures.wires (c.in_ok-log.ensures ∙ ap opening_log c.as_slice.ensures.value)

pub print_log-requires-clause-wires : goal.print_log-requires-clause-wires
print_log-requires-clause-wires g c κs within =
    let fed = c.args.fed.now in
    let replay = c.requires.run in
    wires-stay fed.case.cut.plan (fed_start fed) fed.trace.columns fed.trace.rows g.Z.Streams.flow replay.run c.in_ok-net.net (c.in_ok-net.ensures (fed_start fed) replay.run (replay-zeros replay))
    c.args.events.now c.replay.new.net c.in-Ok.ensures.done.0

pub returns-in-Ok-clause-ended : goal.returns-in-Ok-clause-ended
returns-in-Ok-clause-ended g c =
    let fed = c.args.fed.now in
    let replay = c.requires.run in
    PrintsText _
    (net-goes fed g.Z.Streams.flow replay c.in_ok-net.net (c.in_ok-net.ensures (fed_start fed) replay.run (replay-zeros replay)) c.kept.ensures c.args.events.now c.replay.new.net c.in-Ok.ensures.done.0)
    c.print_log.ensures.prints

pub returns-in-Err-Refused-clause-ended : goal.returns-in-Err-Refused-clause-ended
returns-in-Err-Refused-clause-ended g c =
    let fed = c.args.fed.now in
    let replay = c.requires.run in
    net-stopped fed g.Z.Streams.flow replay c.in_ok-net.net (c.in_ok-net.ensures (fed_start fed) replay.run (replay-zeros replay)) c.kept.ensures c.args.events.now c.replay.new.net c.args.names.now
    (record { step = c.in-Err-Refused.step; cause = c.in-Err-Refused.cause }) c.end_at_step.result refl
    (subst (λ (s : ReplayFault). IsStop c.in_ok-net.net c.args.events.now c.replay.new.net s) c.in-Err-Refused.field-0-is c.in-Err-Refused.ensures.refused)
    (told-so c.args.names.now c.args.events.now c.end_at_step.result _ _ _ _ c.in-Err-Refused.step-is c.in-Err-Refused.cause-is c.end_at_step.ensures)

pub build-requires-clause-run : goal.build-requires-clause-run
build-requires-clause-run g c κs within = replay-run c.requires.run
