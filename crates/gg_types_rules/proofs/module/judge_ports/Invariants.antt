use Rattle.std.proofs.Common.{◌≡◌, map, take, drop, length}
use Rattle.std.specs.List.{flat_map}
use Rattle.gg_types_rules.specs.inside.Known.{owned_seen}
use Rattle.gg_types.specs.Owned.{port_own}
use Rattle.gg_types.specs.Types.{port_faults}
use Rattle.gg_types_rules.proofs.module.judge_ports.Given as goal

abbrev pub invariant-loop-port : goal.invariant-loop-port
invariant-loop-port l =
    (l.known.names.now ≡ l.initial.known.names.now)
    × (l.known.number ≡ l.initial.known.number)
    × (l.known.traced.items ≡ l.initial.known.traced.items)
    × (length l.known.own.items ≡ l.port-index)
    × (owned_seen l.known ≡ map port_own (take l.port-index l.ports))
    × (flat_map port_faults l.ports ≡ flat_map port_faults (drop l.port-index l.ports))
