use Rattle.std.proofs.Common.{◌≡◌, List, ◌<◌, length, get_or, sym, ap, subst, ◌∙◌, rules}
use Rattle.gg_ast.specs.Tree.{ModuleTree}
use Rattle.gg_shape.specs.inside.Faults.{Refuses}
use Rattle.gg_shape.specs.Shape.{unconnected_sinks}
use Rattle.gg_shape.proofs.FlatLemmas.{module-more, module-refused}
use Rattle.gg_shape.proofs.PlaceLemmas.{sinks-at}
use Rattle.gg_shape.proofs.unconnected.check_modules.Goals as goal

pub returns-in_err-check_module : goal.returns-in_err-check_module
returns-in_err-check_module c =
    let modules = c.args.names.now.modules in
    let i = c.loop-number.number in
    let same : c.modules-modules.result.now ≡ modules = c.modules-modules.ensures ∙ ap (λ t. t.modules) c.circuit.ensures.circuit in
    let lt : i < length modules = subst (λ (l : List ModuleTree). i < length l) same c.loop-number-test.true in
    let e = sinks-at modules c.args.all.now i c.index-all-number.result c.index-modules-number.result lt c.requires.connected c.index-all-number.is
    (c.index-modules-number.is ∙ ap (λ (l : List ModuleTree). get_or l i c.index-modules-number.result) same) in
    let h = module-refused (unconnected_sinks modules) modules i c.in_err-check_module.field-0.0 lt c.loop-number.invariant
    (subst (λ l. Refuses l c.in_err-check_module.field-0.0) e c.in_err-check_module.ensures) in
    search (rules, h)

pub loop-number-preserved : goal.loop-number-preserved
loop-number-preserved c =
    let modules = c.args.names.now.modules in
    let i = c.loop-number.number in
    let same : c.modules-modules.result.now ≡ modules = c.modules-modules.ensures ∙ ap (λ t. t.modules) c.circuit.ensures.circuit in
    let lt : i < length modules = subst (λ (l : List ModuleTree). i < length l) same c.loop-number-test.true in
    let e = sinks-at modules c.args.all.now i c.index-all-number.result c.index-modules-number.result lt c.requires.connected c.index-all-number.is
    (c.index-modules-number.is ∙ ap (λ (l : List ModuleTree). get_or l i c.index-modules-number.result) same) in
    module-more (unconnected_sinks modules) modules i lt (sym e ∙ c.in_ok-check_module.ensures) c.loop-number.invariant
