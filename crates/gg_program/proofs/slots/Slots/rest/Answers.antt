use Rattle.std.proofs.Common.{◌≡◌, length, ap, ◌∙◌, arith}
use Rattle.gg_program.specs.Slots.{Slotted}
use Rattle.gg_program.specs.Unset.{unset_among}
use Rattle.gg_program.proofs.UnsetLemmas.{unset-none}
use Rattle.gg_program.proofs.slots.Slots.rest.Goals as goal

pub returns-then-not-self-clause-steps : goal.returns-then-not-self-clause-steps
returns-then-not-self-clause-steps g c =
    let circuit = c.args.piece.now in
    let after : Slotted = record { values = c.work_rest.new.cells.values; done = c.fill.new.self.marks; room = c.work_rest.new.cells.room } in
    let count : length c.fill.new.self.marks ≡ length circuit.signals = c.fill.ensures.count ∙ ap (λ (s : Slotted). length s.done) c.self.view_is ∙ c.requires.cycle.held.count in
    let none = unset-none circuit after (λ s known. c.fill.ensures.full s (omega (arith, known, count))) in
    omega (arith, c.work_rest.ensures.steps, none, ap (unset_among circuit) (c.marks.ensures ∙ ap (λ (s : Slotted). s.done) c.self.view_is))
