use Rattle.std.proofs.Common.{List, ℕ, ◌∙◌, ap, sym, subst}
use Rattle.gg_tape.specs.inside.Instruction.{given, CanDo}
use Rattle.gg_tape.proofs.RunLemmas.{IsRunning-none, IsRunning-next, IsRunning-more, IsRunning-value}
use Rattle.gg_tape.proofs.run.run.Goals as goal

pub loop-instruction-init : goal.loop-instruction-init
loop-instruction-init c = IsRunning-none _ _ _ _ _

pub value_of-value-requires : goal.value_of-value-requires
value_of-value-requires c =
    let i = c.instruction-item.result in
    let next = IsRunning-next _ _ _ _ _ _ _ i c.requires.0 c.loop-instruction-test.true c.instruction-item.is c.requires.1 c.loop-instruction.invariant in
    subst (λ (xs : List ℕ). CanDo c.args.literals.now xs i i.operation) (sym c.as_slice.ensures.value) next.can

pub loop-instruction-preserved : goal.loop-instruction-preserved
loop-instruction-preserved c =
    let i = c.instruction-item.result in
    let gives = c.value_of-value.ensures.value ∙ ap (λ (xs : List ℕ). given c.args.literals.now xs i i.operation) c.as_slice.ensures.value in
    IsRunning-more _ _ _ _ _ _ _ _ i c.requires c.loop-instruction-test.true c.instruction-item.is gives c.value_of-value.ensures.fits c.loop-instruction.invariant

pub returns-clause-value : goal.returns-clause-value
returns-clause-value c = λ nodes can. (IsRunning-value _ _ _ _ _ _ _ nodes c.loop-instruction-test.false can c.loop-instruction.invariant).0

pub returns-clause-fits : goal.returns-clause-fits
returns-clause-fits c = λ nodes can. (IsRunning-value _ _ _ _ _ _ _ nodes c.loop-instruction-test.false can c.loop-instruction.invariant).1
