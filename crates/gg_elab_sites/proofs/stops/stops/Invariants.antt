use Rattle.std.proofs.Common.{◌≡◌, ◌<◌, ◌^◌, ◌++◌, length, map, drop}
use Rattle.std.specs.Prelude.{filter_map}
use Rattle.gg_ast.specs.declared.statement.Stmt.{Stmt}
use Rattle.gg_elab_sites.specs.Signals.{numbered, own_stops, stop_of_kind}
use Rattle.gg_elab_sites.specs.inside.Views.{own_stop_of}
use Rattle.gg_elab_sites.proofs.stops.stops.Given as goal

abbrev pub invariant-loop-statement : goal.invariant-loop-statement
invariant-loop-statement l =
    (map own_stop_of l.stops.items ++ numbered l.number (filter_map (λ (s : Stmt). stop_of_kind s.kind) (drop l.statement-index l.statements)) ≡ own_stops l.statements)
    × (length l.stops.items ≡ l.number)
    × (l.number < 2 ^ 32)
