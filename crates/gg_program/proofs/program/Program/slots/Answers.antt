use Rattle.std.proofs.Common.{◌≡◌, List, length, subst, sym, ap}
use Rattle.gg_order.specs.runs.Room.{HasRoom}
use Rattle.gg_flat.specs.declared.piece.Signal.{Signal}
use Rattle.gg_program.specs.Programmed.{Programmed}
use Rattle.gg_program.specs.Right.{InCycle}
use Rattle.gg_program.proofs.CycleLemmas.{InCycle-none, AreSlots-zeros, NoneDone-replicate}
use Rattle.gg_program.proofs.program.Program.slots.Goals as goal

pub returns-clause-cycle : goal.returns-clause-cycle
returns-clause-cycle c =
    λ state.
    let circuit = c.self.inside.piece.now in
    let slots = c.in_ok-slots.slots in
    let n = length c.signals.result.now in
    let count : n ≡ length circuit.signals = ap (λ (l : List Signal). length l) c.signals.ensures in
    let room : HasRoom circuit slots.room = subst (HasRoom circuit) (sym c.in_ok-slots.ensures.room) c.room_of.ensures.enough in
    subst (λ (p : Programmed). InCycle p.circuit state slots) c.self.view_is
    (InCycle-none circuit state slots (AreSlots-zeros circuit slots n count c.in_ok-slots.ensures.values c.in_ok-slots.ensures.done room) (NoneDone-replicate slots n c.in_ok-slots.ensures.done))
