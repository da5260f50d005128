use Rattle.std.proofs.Common.{◌≡◌, ◌++◌, ◌∷◌, [], sym, ap, ◌∙◌}
use Rattle.std.proofs.lemmas.Result.{on_ok_weaker}
use Rattle.gg_ast.specs.declared.expression.Reference.{Reference}
use Rattle.gg_shape.specs.inside.Told.{is_among, reference_of}
use Rattle.gg_shape.proofs.ConnectedLemmas.{told-more}
use Rattle.gg_shape.proofs.connections.mark.Goals as goal

pub returns-in-Some : goal.returns-in-Some
returns-in-Some c = λ before told.
    let q = c.in-Some.sink.now in
    on_ok_weaker c.add.result
    (λ (more : (r : Reference) → is_among c.add.new.self r ≡ is_among (c.args.connected.now ++ reference_of c.key_of.result ∷ []) r).
    told-more before c.args.statement.now q c.args.connected.now c.add.new.self (sym c.in-Some.ensures)
    (λ r. more r ∙ ap (λ k. is_among (c.args.connected.now ++ k ∷ []) r) c.key_of.ensures) told)
    c.add.ensures
