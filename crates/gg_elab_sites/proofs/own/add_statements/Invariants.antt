use Rattle.std.proofs.Common.{◌≡◌, ◌++◌, map, take}
use Rattle.std.specs.Prelude.{flat_map}
use Rattle.gg_elab_sites.specs.inside.Views.{own_of}
use Rattle.gg_ast.specs.declared.statement.Stmt.{Stmt}
use Rattle.gg_elab_sites.specs.Known.{types_of}
use Rattle.gg_elab_sites.specs.Signals.{own_of_kind}
use Rattle.gg_elab_sites.proofs.own.add_statements.Given as goal

abbrev pub invariant-loop-statement : goal.invariant-loop-statement
invariant-loop-statement l = map own_of l.signals.items ≡ map own_of l.fn.signals.items ++ flat_map (λ (s : Stmt). own_of_kind (types_of l.typed.circuit) l.number s.kind) (take l.statement-index l.statements)
