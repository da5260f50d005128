use Rattle.std.proofs.Common.{◌≡◌, List, [], ap, ◌∙◌, subst, Bool}
use Rattle.std.proofs.lemmas.Result.{IfOk-weaker}
use Rattle.gg_bits.specs.Shape.{Shape, shape, uint, of_kind}
use Rattle.gg_flat.specs.declared.line.Node.{Node}
use Rattle.gg_flat.specs.Line.{HasType, IsCondition}
use Rattle.gg_elab.specs.inside.Growing.{context_of, Added, IsCut}
use Rattle.gg_bits.specs.declared.types.Kind.TheVariants.{UInt}
use Rattle.gg_bits.specs.ResultType.{is_condition}
use Rattle.gg_elab_sites.specs.IsFlat.{IsConditionOf}
use Rattle.gg_elab.proofs.WholeLineLemmas.{condition_stands, condition_fits}
use Rattle.gg_elab.proofs.lines.condition_line.Goals as goal

pub returns-clause-stands : goal.returns-clause-stands
returns-clause-stands c =
    let w = context_of c.args.scope.now in
    let nodes = c.add_expression.new.line in
    let stand = c.in_ok-stand.stand in
    let added : Added w [] nodes c.args.e.now stand.node = subst (λ (l : List Node). Added w l nodes c.args.e.now stand.node) c.new-line.ensures c.in_ok-stand.ensures.0 in
    let bit : shape c.new-bit.result ≡ uint 1 = ap (λ k. of_kind k c.new-bit.result.width) c.new-bit.ensures.kind ∙ ap (of_kind UInt) c.new-bit.ensures.width in
    IfOk-weaker c.cut.result (IsCut c.is_bit.result nodes (shape c.new-bit.result)) (IsConditionOf w c.args.e.now)
    (λ new h. condition_stands w nodes c.args.e.now stand.node added new
    (subst (λ (s : Shape). IsCut (is_condition s) nodes (uint 1) new) c.in_ok-stand.ensures.1
    (subst (λ (b : Bool). IsCut b nodes (uint 1) new) c.is_bit.ensures
    (subst (λ (s : Shape). IsCut c.is_bit.result nodes s new) bit h))))
    c.cut.ensures

pub returns-clause-fits : goal.returns-clause-fits
returns-clause-fits c =
    let w = context_of c.args.scope.now in
    let nodes = c.add_expression.new.line in
    let stand = c.in_ok-stand.stand in
    let added : Added w [] nodes c.args.e.now stand.node = subst (λ (l : List Node). Added w l nodes c.args.e.now stand.node) c.new-line.ensures c.in_ok-stand.ensures.0 in
    let bit : shape c.new-bit.result ≡ uint 1 = ap (λ k. of_kind k c.new-bit.result.width) c.new-bit.ensures.kind ∙ ap (of_kind UInt) c.new-bit.ensures.width in
    IfOk-weaker c.cut.result (IsCut c.is_bit.result nodes (shape c.new-bit.result)) (IsCondition (HasType w.bindings.signals.shapes))
    (λ new h. condition_fits w nodes c.args.e.now stand.node added new
    (subst (λ (s : Shape). IsCut (is_condition s) nodes (uint 1) new) c.in_ok-stand.ensures.1
    (subst (λ (b : Bool). IsCut b nodes (uint 1) new) c.is_bit.ensures
    (subst (λ (s : Shape). IsCut c.is_bit.result nodes s new) bit h))))
    c.cut.ensures
