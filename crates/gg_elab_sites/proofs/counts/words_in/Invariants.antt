use Rattle.std.proofs.Common.{◌≡◌, take}
use Rattle.std.specs.List.{sum_by}
use Rattle.gg_ast.specs.declared.statement.Stmt.{Stmt}
use Rattle.gg_elab_sites.specs.Counts.{capped, words_of_kind}
use Rattle.gg_elab_sites.proofs.counts.words_in.Given as goal

-- the words of the statements so far
abbrev pub invariant-loop-statement : goal.invariant-loop-statement
invariant-loop-statement l = l.words ≡ capped (sum_by (λ (s : Stmt). words_of_kind s.kind) (take l.statement-index l.statements))
