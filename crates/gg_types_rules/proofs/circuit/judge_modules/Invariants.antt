use Rattle.std.proofs.Common.{◌≡◌, drop}
use Rattle.std.specs.List.{flat_map}
use Rattle.gg_types.specs.inside.Typed.{TellModules, TellAllClocks}
use Rattle.gg_types.specs.Types.{faults_of_module, type_faults}
use Rattle.gg_types_rules.proofs.circuit.judge_modules.Given as goal

abbrev pub invariant-loop-number : goal.invariant-loop-number
invariant-loop-number l =
    (type_faults l.names ≡ flat_map (faults_of_module l.names.modules) (drop l.number l.names.modules))
    × TellModules l.names.modules l.number l.tables.own.items
    × TellAllClocks l.names.modules l.number l.tables.clocks.items
