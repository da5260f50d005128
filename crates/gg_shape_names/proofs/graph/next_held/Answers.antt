use Rattle.std.proofs.Common.{sym, inl, inr}
use Rattle.gg_shape_names.specs.Modules.{held_by}
use Rattle.gg_shape_names.proofs.HeldLemmas.{given-at, given-up_to}
use Rattle.gg_shape_names.proofs.graph.next_held.Goals as goal

pub returns-in-Some-clause-held : goal.returns-in-Some-clause-held
returns-in-Some-clause-held c =
    given-at (held_by c.args.circuit.now.modules) c.args.statements.now c.loop-i.i c.in-Some.node c.index-statements-i.result c.loop-i-test.true c.index-statements-i.is (sym c.in-Some.ensures.held)

pub returns-in-Some-clause-first : goal.returns-in-Some-clause-first
returns-in-Some-clause-first c = λ j h.
    elim (given-up_to (held_by c.args.circuit.now.modules) c.args.statements.now c.loop-i.i j c.in-Some.node c.index-statements-i.result c.loop-i-test.true c.index-statements-i.is (sym c.in-Some.ensures.held) h) [
      | inl old ↦ inl (c.loop-i.invariant j old)
      | inr same ↦ inr same
    ]
