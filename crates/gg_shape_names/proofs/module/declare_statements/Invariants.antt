use Rattle.std.proofs.Common.{◌≡◌, take}
use Rattle.gg_shape_names.specs.Along.{along}
use Rattle.gg_shape_names.specs.Repetitions.{repeated_by}
use Rattle.gg_shape_names.specs.inside.Tables.{TellsScope}
use Rattle.gg_shape_names.proofs.AlongLemmas.{left}
use Rattle.gg_shape_names.proofs.module.declare_statements.Given as goal

abbrev pub invariant-loop-statement : goal.invariant-loop-statement
invariant-loop-statement l = record {
  told : TellsScope l.circuit.modules l._ports (take l.statement-index l.statements) l.table;
  left_is : along (repeated_by l._ports) l.statements ≡ left (repeated_by l._ports) l.statements l.statement-index;
}
