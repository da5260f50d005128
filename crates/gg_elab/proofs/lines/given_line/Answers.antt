use Rattle.std.proofs.Common.{◌≡◌, ap, sym, subst, Some}
use Rattle.std.proofs.lemmas.Result.{IfOk-weaker}
use Rattle.gg_bits.specs.Shape.{shape}
use Rattle.gg_elab_sites.specs.Connection.{Connection, ConnectedTo}
use Rattle.gg_elab.specs.inside.Growing.{context_of}
use Rattle.gg_elab_sites.specs.IsFlat.{IsLineFor, IsLineOf}
use Rattle.gg_elab_sites.specs.inside.Views.{connection}
use Rattle.gg_elab.proofs.lines.given_line.Goals as goal

pub returns-in-Of-clause-stands : goal.returns-in-Of-clause-stands
returns-in-Of-clause-stands c =
    let w = context_of c.args.scope.now in
    let e = c.in-Of.e.now in
    let same : connection c.args.source ≡ ConnectedTo e = ap connection c.in-Of.is in
    IfOk-weaker c.value_line.result (IsLineOf w (shape c.args.ty) e) (IsLineFor w (shape c.args.ty) (Some (connection c.args.source)))
    (λ new h. subst (λ (o : Connection). IsLineFor w (shape c.args.ty) (Some o) new) (sym same) (record { value = h.value; names = h.names; nodes = h.nodes }))
    c.value_line.ensures.stands
