use Rattle.std.proofs.Common.{List, ◌∙◌, ap, length}
use Rattle.gg_ast.specs.Tree.{ModuleTree}
use Rattle.gg_elab_sites.specs.inside.Counts.{deep_at, deep_places}
use Rattle.gg_elab_sites.proofs.CountLemmas.{deep-found, length-deep_places}
use Rattle.gg_elab_sites.proofs.counts.first_deep.Goals as goal

pub gather_at-first-requires-clause-own : goal.gather_at-first-requires-clause-own
gather_at-first-requires-clause-own c = ap length c.in_ok-deep.ensures ∙ length-deep_places 0 c.modules.result.now ∙ ap (λ (ms : List ModuleTree). length ms) c.modules.ensures

pub returns : goal.returns
returns c = deep-found c.args.circuit.now.modules c.in_ok-deep.deep.items c.args.place c.gather_at-first.result c.deep_at.result c.requires.few (c.in_ok-deep.ensures ∙ ap (λ (ms : List ModuleTree). deep_places 0 ms) c.modules.ensures) c.requires.place c.gather_at-first.ensures c.gather_at-first.type_inv (c.deep_at.ensures ∙ ap (λ (ms : List ModuleTree). deep_at ms c.gather_at-first.result) c.modules-2.ensures)
