use Rattle.std.proofs.Common.{◌≡◌, None, subst, sym}
use Rattle.gg_node.specs.inside.Machine.{IsTray}
use Rattle.gg_node.specs.Machine.{kept_value}
use Rattle.gg_build.specs.inside.Node.{machine_of}
use Rattle.gg_build.specs.declared.node.Node.{Node}
use Rattle.gg_build.proofs.HostLemmas.{unit-keeps}
use Rattle.gg_build.proofs.node.Node.value.Goals as goal

pub returns-in-Unit-clause-tray : goal.returns-in-Unit-clause-tray
returns-in-Unit-clause-tray g c =
    subst (λ (node : Node _). IsTray (machine_of node).behaviour → None ≡ kept_value (machine_of node) c.args.cycle) (sym c.in-Unit.is) (unit-keeps c.in-Unit.host c.args.cycle)

pub returns-in-Shared-clause-tray : goal.returns-in-Shared-clause-tray
returns-in-Shared-clause-tray g c =
    subst (λ (node : Node _). IsTray (machine_of node).behaviour → None ≡ kept_value (machine_of node) c.args.cycle) (sym c.in-Shared.is) (unit-keeps c.in-Shared.host c.args.cycle)
