use Rattle.std.proofs.Common.{◌≡◌, ℕ, ◌<◌, List, length, subst, ap, ◌∙◌, inr}
use Rattle.gg_flat.specs.Line.{value_at}
use Rattle.gg_flat.specs.WellFormed.{IsWellFormed}
use Rattle.gg_flat.specs.InOrder.{IsInOrder}
use Rattle.gg_order.proofs.NeedsLemmas.ReachLemmas.{Reaches-itself}
use Rattle.gg_program.specs.Programmed.{Programmed}
use Rattle.gg_program.specs.Slots.{IsDone, DoneWith, inputs_in}
use Rattle.gg_program.specs.Right.{InCycle}
use Rattle.gg_program.proofs.ConeLemmas.{IsConeValue-done}
use Rattle.gg_program.proofs.program.Program.cone_once.Goals as goal

pub returns-clause-value : goal.returns-clause-value
returns-clause-value g c =
    let circuit = c.args.self.now.circuit in
    let state = c.args.state.now in
    let before = c.args.slots.now in
    let after = c.reach.new.self in
    let formed : IsWellFormed circuit = subst (λ (p : Programmed). IsWellFormed p.circuit) c.self.view_is c.self.invariant.formed in
    let ordered : IsInOrder circuit = subst (λ (p : Programmed). IsInOrder p.circuit) c.self.view_is c.self.invariant.ordered in
    let out = value_at circuit.outs c.args.out in
    let known : out < length circuit.signals = formed.outs c.args.out c.requires.out in
    let signal = value_at c.outs.result.now c.args.out in
    let at : signal ≡ out = ap (λ (l : List ℕ). value_at l c.args.out) (c.outs.ensures ∙ ap (λ (p : Programmed). p.circuit.outs) c.self.view_is) in
    let cycle : InCycle circuit state after = subst (λ (p : Programmed). InCycle p.circuit state after) c.self.view_is c.reach.ensures.cycle in
    let with : DoneWith circuit signal before after = subst (λ (p : Programmed). DoneWith p.circuit signal before after) c.self.view_is c.reach.ensures.done in
    let done : IsDone after out = subst (IsDone after) at (with.done signal (inr (Reaches-itself circuit signal))) in
    let same : inputs_in circuit after.values ≡ inputs_in circuit before.values = subst (λ (p : Programmed). inputs_in p.circuit after.values ≡ inputs_in p.circuit before.values) c.self.view_is c.reach.ensures.inputs in
    IsConeValue-done circuit state (inputs_in circuit before.values) after.values out c.value.result (IsDone after) formed ordered known c.requires.state cycle.held.typed cycle.right done same
    (c.value.ensures ∙ ap (value_at after.values) at)
