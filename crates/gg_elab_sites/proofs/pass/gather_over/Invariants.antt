use Rattle.std.proofs.Common.{◌≡◌, drop, get_or}
use Rattle.gg_elab_sites.specs.Sites.{held_by}
use Rattle.gg_elab_sites.specs.inside.Graph.{gathered_over}
use Rattle.gg_elab_sites.proofs.pass.gather_over.Given as goal

-- what is gathered so far, with the statements that are left, is what is gathered over all
abbrev pub invariant-loop-statement : goal.invariant-loop-statement
invariant-loop-statement l =
    gathered_over l.how (λ k. get_or l.values k 0) l.fn.own (held_by l.circuit.modules l.statements)
    ≡ gathered_over l.how (λ k. get_or l.values k 0) l.value (held_by l.circuit.modules (drop l.statement-index l.statements))
