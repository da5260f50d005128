use Rattle.std.proofs.Common.{◌∙◌}
use Rattle.gg_node.specs.Machine.{machine_at}
use Rattle.gg_rows.proofs.HostLemmas.{host-tells}
use Rattle.gg_rows.proofs.TrayLemmas.{tray-tells}
use Rattle.gg_rows.proofs.rows.tray_value.Goals as goal

pub returns-clause-told : goal.returns-clause-told
returns-clause-told g c =
    c.unwrap_or.ensures
    ∙ host-tells c.host.result.now (machine_at c.args.net.now.machines c.args.machine) c.args.cycle c.value.result c.host.ensures c.value.ensures.tray c.value.ensures.other

pub returns-clause-carried : goal.returns-clause-carried
returns-clause-carried g c =
    λ channel has. returns-clause-told g c ∙ tray-tells g.Z.Streams.flow c.args.net.now c.args.machine channel c.args.cycle c.kept.ensures has
