use Rattle.std.proofs.Common.{◌≡◌, ℕ, List, ◌++◌, map, take}
use Rattle.std.specs.List.{flat_map}
use Rattle.gg_ast.specs.declared.statement.Stmt.{Stmt}
use Rattle.gg_types.specs.declared.way.Way.{Way}
use Rattle.gg_types.specs.Clocks.{ways_by}
use Rattle.gg_types_rules.proofs.clocks.add_ways.Given as goal

abbrev pub invariant-loop-statement : goal.invariant-loop-statement
invariant-loop-statement l =
    l.ways.items ≡ l.initial.ways.items ++ map (λ (w : List ℕ × Way). w.1) (flat_map (λ (s : Stmt). ways_by s.kind) (take l.statement-index l.statements))
