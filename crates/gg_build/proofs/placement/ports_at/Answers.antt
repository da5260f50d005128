use Rattle.std.proofs.Common.{◌≡◌, map, sym, subst}
use Rattle.std.specs.Prelude.{All}
use Rattle.gg_net.specs.inside.Net.{entry_of}
use Rattle.gg_build.specs.declared.node.Node.{Node}
use Rattle.gg_build.specs.inside.Node.{machines_of}
use Rattle.gg_build.proofs.HostLemmas.{unit-ports}
use Rattle.gg_build.proofs.placement.ports_at.Goals as goal

pub returns-in-Unit : goal.returns-in-Unit
returns-in-Unit g c =
    subst (λ (node : Node _). All (λ machine. c.new.result.items ≡ map entry_of machine.ports) (machines_of node)) (sym c.in-Unit.is) (unit-ports c.in-Unit.unit c.new.result.items c.new.ensures.items)

pub returns-in-Shared : goal.returns-in-Shared
returns-in-Shared g c =
    subst (λ (node : Node _). All (λ machine. c.new-in-Shared.result.items ≡ map entry_of machine.ports) (machines_of node)) (sym c.in-Shared.is) (unit-ports c.in-Shared.units c.new-in-Shared.result.items c.new-in-Shared.ensures.items)
