use Rattle.std.proofs.Common.{◌≡◌, ◌<◌, [], ◌∷◌, ◌++◌, List, length, ap, subst, ◌∙◌, rules}
use Rattle.gg_ast.specs.declared.expression.Reference.{Reference}
use Rattle.gg_ast.specs.Tree.{ModuleTree}
use Rattle.gg_shape.specs.Shape.{second_connections}
use Rattle.gg_shape.proofs.FlatLemmas.{module-more, module-refused}
use Rattle.gg_shape.proofs.PlaceLemmas.{TellsFirst-more}
use Rattle.gg_shape.proofs.connections.check_second.Goals as goal

pub connected_in-requires : goal.connected_in-requires
connected_in-requires c =
    subst (λ (l : List ModuleTree). c.loop-number.number < length l) (c.modules-number-end.ensures ∙ ap (λ t. t.modules) c.circuit.ensures.circuit) c.loop-number-test.true

pub returns-in_err-connected-clause-answers : goal.returns-in_err-connected-clause-answers
returns-in_err-connected-clause-answers c =
    let modules = c.args.names.now.modules in
    let i = c.loop-number.number in
    let same : c.modules-number-end.result.now ≡ modules = c.modules-number-end.ensures ∙ ap (λ t. t.modules) c.circuit.ensures.circuit in
    let lt : i < length modules = subst (λ (l : List ModuleTree). i < length l) same c.loop-number-test.true in
    let h = module-refused (second_connections modules) modules i c.in_err-connected.field-0.0 lt c.loop-number.invariant.rest_is c.in_err-connected.ensures.answers in
    search (rules, h)

pub loop-number-preserved : goal.loop-number-preserved
loop-number-preserved c =
    let modules = c.args.names.now.modules in
    let i = c.loop-number.number in
    let same : c.modules-number-end.result.now ≡ modules = c.modules-number-end.ensures ∙ ap (λ t. t.modules) c.circuit.ensures.circuit in
    let lt : i < length modules = subst (λ (l : List ModuleTree). i < length l) same c.loop-number-test.true in
    record {
      told = TellsFirst-more modules i c.loop-number.all.items c.in_ok-connected.connected c.push_reserved.new.self.items c.loop-number.invariant.told (c.push_reserved.ensures.items ∙ ap (λ (l : List (List Reference)). l ++ c.in_ok-connected.connected ∷ []) c.reserve.ensures.items) c.in_ok-connected.ensures.connected;
      rest_is = module-more (second_connections modules) modules i lt c.in_ok-connected.ensures.answers c.loop-number.invariant.rest_is;
    }
