use Rattle.std.proofs.Common.{◌∙◌, ap, sym}
use Rattle.gg_bits.specs.ResultType.{type1, type2, type_const, type_mux}
use Rattle.gg_bits.specs.Shape.{shape}
use Rattle.gg_ast.specs.inside.TermOf.{term_of}
use Rattle.gg_flat.specs.declared.line.Op.TheVariants.{One, Two, Fix, Mux}
use Rattle.gg_elab.specs.inside.Growing.{context_of, IsResultNode}
use Rattle.gg_elab_sites.specs.Meaning.{term_shape}
use Rattle.gg_elab.proofs.LineLemmas.{added_one, added_two, added_fix, added_mux}
use Rattle.gg_elab.proofs.PlacedLemmas.{Stands, finished, operand}
use Rattle.gg_elab.proofs.expression.+add_expression.Goals as goal

pub returns-in_ok-a-in-Unary : goal.returns-in_ok-a-in-Unary
returns-in_ok-a-in-Unary t c =
    let w = context_of c.args.scope.now in
    let op = c.in-Unary.op in
    let a = c.in_ok-a-in-Unary.a in
    let mid = c.add_expression.new.line in
    let pa : Stands w c.args.line.now mid c.in-Unary.a.value a = operand w c.args.line.now mid _ c.in-Unary.a.value a c.deref.ensures c.in_ok-a-in-Unary.ensures in
    finished c.add_result.result w c.args.line.now mid c.add_result.new.line _ _ (IsResultNode c.result1.result (One op a.node)) (sym c.e.view_is ∙ ap term_of c.in-Unary.is) c.add_result.ensures
    (λ n p. added_one w c.args.line.now mid n op c.in-Unary.a.value a.node c.result1.result pa.0 (c.result1.ensures.exact ∙ ap (type1 op) pa.1) p)

pub returns-in_ok-b-in-Binary : goal.returns-in_ok-b-in-Binary
returns-in_ok-b-in-Binary t c =
    let w = context_of c.args.scope.now in
    let op = c.in-Binary.op in
    let a = c.in_ok-a-in-Binary.a in
    let b = c.in_ok-b-in-Binary.b in
    let one = c.add_expression-in-Binary.new.line in
    let mid = c.add_expression-in-Binary-2.new.line in
    let pa : Stands w c.args.line.now one c.in-Binary.a.value a = operand w c.args.line.now one _ c.in-Binary.a.value a c.deref-in-Binary.ensures c.in_ok-a-in-Binary.ensures in
    let pb : Stands w one mid c.in-Binary.b.value b = operand w one mid _ c.in-Binary.b.value b c.deref-in-Binary-2.ensures c.in_ok-b-in-Binary.ensures in
    finished c.add_result-in-Binary.result w c.args.line.now mid c.add_result-in-Binary.new.line _ _ (IsResultNode c.result2.result (Two op a.node b.node)) (sym c.e.view_is ∙ ap term_of c.in-Binary.is) c.add_result-in-Binary.ensures
    (λ n p. added_two w c.args.line.now one mid n op c.in-Binary.a.value c.in-Binary.b.value a.node b.node c.result2.result pa.0 pb.0 (c.result2.ensures.exact ∙ ap (λ s. type2 op s (shape b.ty)) pa.1 ∙ ap (type2 op (term_shape w c.in-Binary.a.value)) pb.1) p)

pub returns-in_ok-a-in-Fixed : goal.returns-in_ok-a-in-Fixed
returns-in_ok-a-in-Fixed t c =
    let w = context_of c.args.scope.now in
    let op = c.in-Fixed.op in
    let a = c.in_ok-a-in-Fixed.a in
    let mid = c.add_expression-in-Fixed.new.line in
    let pa : Stands w c.args.line.now mid c.in-Fixed.a.value a = operand w c.args.line.now mid _ c.in-Fixed.a.value a c.deref-in-Fixed.ensures c.in_ok-a-in-Fixed.ensures in
    finished c.add_result-in-Fixed.result w c.args.line.now mid c.add_result-in-Fixed.new.line _ _ (IsResultNode c.result_const.result (Fix op a.node c.in-Fixed.n c.in-Fixed.m)) (sym c.e.view_is ∙ ap term_of c.in-Fixed.is) c.add_result-in-Fixed.ensures
    (λ n p. added_fix w c.args.line.now mid n op c.in-Fixed.a.value a.node c.in-Fixed.n c.in-Fixed.m c.result_const.result pa.0 (c.result_const.ensures.exact ∙ ap (λ s. type_const op s c.in-Fixed.n c.in-Fixed.m) pa.1) p)

pub returns-in_ok-b-in-Mux : goal.returns-in_ok-b-in-Mux
returns-in_ok-b-in-Mux t c =
    let w = context_of c.args.scope.now in
    let u = c.in_ok-c-in-Mux.c in
    let a = c.in_ok-a-in-Mux.a in
    let b = c.in_ok-b-in-Mux.b in
    let one = c.add_expression-in-Mux.new.line in
    let two = c.add_expression-in-Mux-2.new.line in
    let mid = c.add_expression-in-Mux-3.new.line in
    let pc : Stands w c.args.line.now one c.in-Mux.c.value u = operand w c.args.line.now one _ c.in-Mux.c.value u c.deref-in-Mux.ensures c.in_ok-c-in-Mux.ensures in
    let pa : Stands w one two c.in-Mux.a.value a = operand w one two _ c.in-Mux.a.value a c.deref-in-Mux-2.ensures c.in_ok-a-in-Mux.ensures in
    let pb : Stands w two mid c.in-Mux.b.value b = operand w two mid _ c.in-Mux.b.value b c.deref-in-Mux-3.ensures c.in_ok-b-in-Mux.ensures in
    finished c.add_result-in-Mux.result w c.args.line.now mid c.add_result-in-Mux.new.line _ _ (IsResultNode c.result_mux.result (Mux u.node a.node b.node)) (sym c.e.view_is ∙ ap term_of c.in-Mux.is) c.add_result-in-Mux.ensures
    (λ n p. added_mux w c.args.line.now one two mid n c.in-Mux.c.value c.in-Mux.a.value c.in-Mux.b.value u.node a.node b.node c.result_mux.result pc.0 pa.0 pb.0
    (c.result_mux.ensures.exact ∙ ap (λ s. type_mux s (shape a.ty) (shape b.ty)) pc.1 ∙ ap (λ s. type_mux (term_shape w c.in-Mux.c.value) s (shape b.ty)) pa.1 ∙ ap (type_mux (term_shape w c.in-Mux.c.value) (term_shape w c.in-Mux.a.value)) pb.1) p)
