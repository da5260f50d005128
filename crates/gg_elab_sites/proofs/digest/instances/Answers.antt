use Rattle.std.proofs.Common.{◌∙◌, ap, ◌++◌, option_to_list, map, [], arith}
use Rattle.gg_ast.specs.declared.statement.Stmt.{Stmt}
use Rattle.gg_elab_sites.specs.Sites.{held_by_kind}
use Rattle.gg_elab_sites.specs.inside.Views.{held_of}
use Rattle.gg_elab_sites.proofs.ListLemmas.{filter_map-more}
use Rattle.gg_elab_sites.proofs.digest.instances.Goals as goal

pub loop-statement-preserved : goal.loop-statement-preserved
loop-statement-preserved c = filter_map-more (λ (s : Stmt). held_by_kind c.args.circuit.now.modules s.kind) [] (map held_of c.loop-statement.instances.items) (map held_of c.add_instance.new.instances.items) c.args.statements.now c.loop-statement.statement-index c.statement-item.result (omega arith) c.statement-item.is c.loop-statement.invariant (c.in_ok-add_instance.ensures ∙ ap (λ o. map held_of c.loop-statement.instances.items ++ option_to_list o) c.instance_of.ensures)
