use Rattle.std.proofs.Common.{map, [], arith}
use Rattle.gg_ast.specs.declared.statement.Stmt.{Stmt}
use Rattle.gg_elab_sites.specs.Signals.{bank_of_kind}
use Rattle.gg_elab_sites.specs.inside.Views.{own_bank_of}
use Rattle.gg_elab_sites.proofs.ListLemmas.{filter_map-more}
use Rattle.gg_elab_sites.proofs.digest.memories.Goals as goal

pub loop-statement-preserved : goal.loop-statement-preserved
loop-statement-preserved c = filter_map-more (λ (s : Stmt). bank_of_kind s.kind) [] (map own_bank_of c.loop-statement.memories.items) (map own_bank_of c.add_statement_memory.new.memories.items) c.args.statements.now c.loop-statement.statement-index c.statement-item.result (omega arith) c.statement-item.is c.loop-statement.invariant c.in_ok-add_statement_memory.ensures
