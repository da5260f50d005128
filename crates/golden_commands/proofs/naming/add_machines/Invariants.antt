use Rattle.std.proofs.Common.{◌≡◌, ◌++◌, map, take}
use Rattle.std.specs.List.{range_with_len}
use Rattle.golden_commands.specs.Replay.{port_names}
use Rattle.golden_commands.proofs.naming.add_machines.Given as goal

abbrev pub invariant-loop-m : goal.invariant-loop-m
invariant-loop-m l =
    l.names ≡ record l.initial.names {
      machines = l.initial.names.machines ++ map (λ machine. machine.name) (take l.m l.machines);
      ports = l.initial.names.ports ++ map (port_names l.tree l.listed) (range_with_len 0 l.m);
    }
