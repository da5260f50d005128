use Rattle.gg_cut_plan.specs.Channels.{channel_names}
use Rattle.gg_cut_plan.proofs.BridgeLemmas.{wrong-stop}
use Rattle.gg_cut_rules.proofs.bridges.ports_stand.Goals as goal

pub returns-in-Err-clause-told : goal.returns-in-Err-clause-told
returns-in-Err-clause-told c =
    wrong-stop (channel_names c.args.piece.now c.args.signals.now) c.args.ports.now c.args.listed.now c.loop-port.ports c.loop-port.port-index c.port-item.result c.in-Err.cause c.loop-port-test.true c.port-item.is c.loop-port.invariant.wrong c.in-Err.ensures.told
