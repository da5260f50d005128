-- The machines of a node.
-- Source: ICCAD 2019 (units and memories of a target as models of their own, each on a host).
use Rattle.std.specs.Prelude.{List, [], ◌∷◌}
use Rattle.gg_node.specs.Machine.{Machine, machine_at}
use Rattle.gg_fame5.specs.inside.Shared as shared
use Rattle.gg_build.specs.declared.node.Node.{Node}
use Rattle.gg_build.specs.declared.node.Node.TheVariants as node

-- the machines of a node of any kind
abbrev pub machines_of : {B : Type 0} → Node B → List Machine
machines_of (node.Unit unit) = shared.machines_of unit
machines_of (node.Shared units) = shared.machines_of units
machines_of (node.Memory machine) = machine ∷ []
machines_of (node.Source machine) = machine ∷ []
machines_of (node.Tray machine) = machine ∷ []
machines_of (node.Bridge host) = host.machine ∷ []

-- the first machine of a node, which for most is the only one
abbrev pub machine_of : {B : Type 0} → Node B → Machine
machine_of node = machine_at (machines_of node) 0
