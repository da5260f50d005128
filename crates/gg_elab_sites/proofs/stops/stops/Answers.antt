use Rattle.std.proofs.Common.{List, ◌++◌, map, drop, ◌+◌, sym, ap, ◌∙◌, arith}
use Rattle.std.proofs.lemmas.List.{length-map}
use Rattle.std.specs.Prelude.{filter_map}
use Rattle.gg_ast.specs.declared.statement.Stmt.{Stmt}
use Rattle.gg_elab_sites.specs.Signals.{OwnStop, numbered, own_stops, stop_of_kind}
use Rattle.gg_elab_sites.specs.inside.Views.{own_stop_of}
use Rattle.gg_elab_sites.proofs.StopLemmas.{counted-more, stops-more}
use Rattle.gg_elab_sites.proofs.stops.stops.Goals as goal

pub loop-statement-preserved : goal.loop-statement-preserved
loop-statement-preserved c =
    let rest = filter_map (λ (s : Stmt). stop_of_kind s.kind) (drop (c.loop-statement.statement-index + 1) c.args.statements.now) in
    let added = c.in_ok-number.ensures in (
      ap (λ (l : List OwnStop). l ++ numbered c.in_ok-number.number rest) added.stops
          ∙ stops-more c.args.statements.now c.loop-statement.statement-index c.loop-statement.number c.in_ok-number.number c.statement-item.result (map own_stop_of c.loop-statement.stops.items) (own_stops c.args.statements.now) (omega arith) c.statement-item.is added.next c.loop-statement.invariant.0,
      sym (length-map c.add_stop.new.stops.items own_stop_of)
          ∙ counted-more (map own_stop_of c.loop-statement.stops.items) (map own_stop_of c.add_stop.new.stops.items) c.loop-statement.number c.in_ok-number.number (stop_of_kind c.statement-item.result.kind) (length-map c.loop-statement.stops.items own_stop_of ∙ c.loop-statement.invariant.1) added.stops added.next,
      added.few,
    )

pub returns-clause-few : goal.returns-clause-few
returns-clause-few c = let size = c.loop-statement.invariant.1 in let few = c.loop-statement.invariant.2 in omega (arith, size, few)
