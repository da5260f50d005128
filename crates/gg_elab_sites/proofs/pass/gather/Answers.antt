use Rattle.std.proofs.Common.{◌≡◌, ℕ, ◌+◌, ◌<◌, List, [], ◌∙◌, ap, sym, subst, arith, get_or, set, length}
use Rattle.std.proofs.lemmas.List.{get_or_default}
use Rattle.gg_ast.specs.Tree.{ModuleTree, empty_module}
use Rattle.gg_elab_sites.specs.Sites.{module_at}
use Rattle.gg_elab_sites.proofs.PassLemmas.{IsGathered, gathered-more, gathered-all, gathered-from}
use Rattle.gg_elab_sites.proofs.pass.gather.Goals as goal

pub loop-module-preserved : goal.loop-module-preserved
loop-module-preserved c =
    let k : ℕ = get_or c.args.order.now c.loop-module.module-index 0 in
    let lt : k < length c.args.circuit.now.modules = c.requires.order.nodes c.loop-module.module-index (omega arith) in
    let within : k < length c.loop-module.values.items = omega (arith, lt, c.requires.own, c.loop-module.invariant.count) in
    let here : c.index-modules-place.result ≡ module_at c.args.circuit.now.modules k =
    c.index-modules-place.is ∙ ap (λ (ms : List ModuleTree). get_or ms k c.index-modules-place.result) c.modules-modules.ensures ∙ get_or_default c.args.circuit.now.modules k c.index-modules-place.result (empty_module 0 []) lt in
    let same = gathered-from c.args.how c.args.circuit.now.modules c.loop-module.values.items _ k c.index.result.now c.gather_over-value.result c.statements-statements.result.now c.gather_over-value.ensures c.as_slice.ensures.value
    (c.index.ensures ∙ get_or_default c.loop-module.values.items k c.index.result.now 0 within)
    (c.statements-statements.ensures ∙ ap (λ (m : ModuleTree). m.statements) here) in
    subst (λ (v : ℕ). IsGathered c.args.how c.args.circuit.now.modules c.args.own.items c.args.order.now (c.loop-module.module-index + 1) (set c.loop-module.values.items k v)) (sym same)
    (gathered-more c.args.how c.args.circuit.now.modules c.args.own.items c.args.order.now c.loop-module.module-index c.loop-module.values.items c.requires.own c.requires.order (omega arith) c.loop-module.invariant)

pub returns-clause-values : goal.returns-clause-values
returns-clause-values c =
    let end : c.loop-module.module-index ≡ length c.args.order.now = omega arith in
    gathered-all c.args.how c.args.circuit.now.modules c.args.own.items c.args.order.now c.loop-module.values.items c.requires.order
    (subst (λ (i : ℕ). IsGathered c.args.how c.args.circuit.now.modules c.args.own.items c.args.order.now i c.loop-module.values.items) end c.loop-module.invariant)
