use Rattle.std.proofs.Common.{ℕ, List, ◌++◌, map, ap, ◌∙◌}
use Rattle.std.specs.List.{flat_map}
use Rattle.gg_ast.specs.declared.statement.Stmt.{Stmt}
use Rattle.gg_types.specs.declared.way.Way.{Way}
use Rattle.gg_types.specs.Clocks.{ways_by}
use Rattle.gg_types_rules.proofs.WayLemmas.{ways-split}
use Rattle.gg_types_rules.proofs.clocks.ways_in.Goals as goal

pub returns : goal.returns
returns c =
    c.in_ok-add_ways.ensures
    ∙ ap (λ l. l ++ map (λ (w : List ℕ × Way). w.1) (flat_map (λ (s : Stmt). ways_by s.kind) c.statements.result.now)) c.in_ok-ways.ensures
    ∙ ways-split c.args.this.now c.ports.result.now c.statements.result.now c.ports.ensures c.statements.ensures
