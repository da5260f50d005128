use Rattle.std.proofs.Common.{◌≡◌, List, [], get_or, replicate, ◌∙◌, ap, length}
use Rattle.std.proofs.lemmas.List.{get_or_default}
use Rattle.gg_ast.specs.Tree.{ModuleTree, empty_module}
use Rattle.gg_elab_sites.specs.Sites.{module_at}
use Rattle.gg_elab_sites.specs.declared.pass.Gathering.TheVariants.{Sum}
use Rattle.gg_elab_sites.proofs.PassLemmas.{gathered-lent}
use Rattle.gg_elab_sites.proofs.CountLemmas.{instances-found}
use Rattle.gg_elab_sites.proofs.counts.instance_total.Goals as goal

pub returns : goal.returns
returns c =
    let here : c.index-modules-place.result ≡ module_at c.args.circuit.now.modules c.args.place =
    c.index-modules-place.is ∙ ap (λ (ms : List ModuleTree). get_or ms c.args.place c.index-modules-place.result) c.modules-modules.ensures ∙ get_or_default c.args.circuit.now.modules c.args.place c.index-modules-place.result (empty_module 0 []) c.requires.place in
    instances-found c.args.circuit.now.modules c.in_ok-ones.ones.items c.gather-totals.result.items c.args.place c.gather_over-total.result (c.in_ok-ones.ensures ∙ ap (λ (ms : List ModuleTree). replicate (length ms) 1) c.modules-modules.ensures) c.requires.place c.gather-totals.ensures.values
    (gathered-lent Sum c.args.circuit.now.modules c.gather-totals.result.items _ c.args.place 0 c.gather_over-total.result c.statements-held.result.now c.gather_over-total.ensures c.as_slice.ensures.value (c.statements-held.ensures ∙ ap (λ (m : ModuleTree). m.statements) here))
