use Rattle.std.proofs.Common.{List, ◌∙◌, ap, length, replicate}
use Rattle.gg_ast.specs.Tree.{ModuleTree}
use Rattle.gg_elab_sites.proofs.CountLemmas.{depth-is}
use Rattle.gg_elab_sites.proofs.counts.depth.Goals as goal

pub returns : goal.returns
returns c = depth-is c.args.circuit.now.modules c.in_ok-zeros.zeros.items c.args.place c.gather_at-deepest.result (c.in_ok-zeros.ensures ∙ ap (λ (ms : List ModuleTree). replicate (length ms) 0) c.modules.ensures) c.requires.place c.gather_at-deepest.ensures c.gather_at-deepest.type_inv
