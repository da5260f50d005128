use Rattle.std.proofs.Common.{◌≡◌, List, [], ◌∷◌, ◌++◌, take, ap, sym, ◌∙◌, subst, arith, ◌+◌}
use Rattle.std.proofs.lemmas.List.{take_more}
use Rattle.gg_ast.specs.declared.statement.Stmt.{Stmt}
use Rattle.gg_elab_sites.specs.inside.Views.{TellsConnections}
use Rattle.gg_elab_sites.proofs.ConnectionLemmas.{tells-more}
use Rattle.gg_elab_sites.proofs.connections.connections.Goals as goal

pub loop-statement-preserved : goal.loop-statement-preserved
loop-statement-preserved c =
    let all = c.args.statements.now in
    let i = c.loop-statement.statement-index in
    let s = c.statement-item.result in
    let front : take (i + 1) all ≡ take i all ++ s ∷ [] = take_more all i s (omega arith) ∙ ap (λ (x : Stmt). take i all ++ x ∷ []) (sym c.statement-item.is) in (
      c.in_ok-note.ensures.count,
      subst (λ (ss : List Stmt). TellsConnections ss c.note.new.sinks.names c.note.new.sinks.sources.items) (sym front)
          (tells-more (take i all) s c.loop-statement.sinks.names c.note.new.sinks.names c.loop-statement.sinks.sources.items c.note.new.sinks.sources.items c.loop-statement.invariant.1 c.in_ok-note.ensures.noted),
    )
