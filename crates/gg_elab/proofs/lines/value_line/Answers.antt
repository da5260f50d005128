use Rattle.std.proofs.Common.{List, [], subst, Bool}
use Rattle.std.proofs.lemmas.Result.{IfOk-weaker}
use Rattle.gg_bits.specs.Shape.{Shape, shape}
use Rattle.gg_flat.specs.declared.line.Node.{Node}
use Rattle.gg_flat.specs.Line.{HasType, IsSource}
use Rattle.gg_elab.specs.inside.Growing.{context_of, Added, IsCut}
use Rattle.gg_elab_sites.specs.IsFlat.{IsLineOf}
use Rattle.gg_elab_sites.specs.Meaning.{takes}
use Rattle.gg_elab.proofs.WholeLineLemmas.{cut_stands, cut_fits}
use Rattle.gg_elab.proofs.lines.value_line.Goals as goal

pub returns-clause-stands : goal.returns-clause-stands
returns-clause-stands c =
    let w = context_of c.args.scope.now in
    let nodes = c.add_expression.new.line in
    let stand = c.in_ok-stand.stand in
    let added : Added w [] nodes c.args.e.now stand.node = subst (λ (l : List Node). Added w l nodes c.args.e.now stand.node) c.new-line.ensures c.in_ok-stand.ensures.0 in
    IfOk-weaker c.cut.result (IsCut c.takes.result nodes (shape c.args.ty)) (IsLineOf w (shape c.args.ty) c.args.e.now)
    (λ new h. cut_stands w nodes c.args.e.now stand.node added (shape c.args.ty) new
    (subst (λ (s : Shape). IsCut (takes (shape c.args.ty) s) nodes (shape c.args.ty) new) c.in_ok-stand.ensures.1
    (subst (λ (b : Bool). IsCut b nodes (shape c.args.ty) new) c.takes.ensures h)))
    c.cut.ensures

pub returns-clause-fits : goal.returns-clause-fits
returns-clause-fits c =
    let w = context_of c.args.scope.now in
    let nodes = c.add_expression.new.line in
    let stand = c.in_ok-stand.stand in
    let added : Added w [] nodes c.args.e.now stand.node = subst (λ (l : List Node). Added w l nodes c.args.e.now stand.node) c.new-line.ensures c.in_ok-stand.ensures.0 in
    IfOk-weaker c.cut.result (IsCut c.takes.result nodes (shape c.args.ty)) (IsSource (HasType w.bindings.signals.shapes) (shape c.args.ty))
    (λ new h. cut_fits w nodes c.args.e.now stand.node added (shape c.args.ty) new
    (subst (λ (s : Shape). IsCut (takes (shape c.args.ty) s) nodes (shape c.args.ty) new) c.in_ok-stand.ensures.1
    (subst (λ (b : Bool). IsCut b nodes (shape c.args.ty) new) c.takes.ensures h)))
    c.cut.ensures
