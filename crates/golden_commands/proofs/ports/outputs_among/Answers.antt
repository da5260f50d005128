use Rattle.std.proofs.Common.{arith}
use Rattle.golden_commands.proofs.OutputLemmas.{outputs-more}
use Rattle.golden_commands.proofs.ports.outputs_among.Goals as goal

pub loop-port-preserved : goal.loop-port-preserved
loop-port-preserved c =
    let test = c.loop-port-test.true in
    outputs-more c.args.ports.now c.loop-port.port-index _ (omega (arith, test)) c.loop-port.signals.items c.add_output.new.signals.items c.loop-port.invariant c.in_ok-add_output.ensures
