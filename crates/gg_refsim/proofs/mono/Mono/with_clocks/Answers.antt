use Rattle.std.proofs.Common.{◌∙◌, subst}
use Rattle.gg_flat.specs.Circuit.{FlatCircuit, signal_shapes}
use Rattle.gg_flat.specs.Line.{AreTyped}
use Rattle.gg_flat.specs.State.{IsState}
use Rattle.gg_order.specs.runs.Room.{HasRoom}
use Rattle.gg_tape.specs.inside.Tape.{IsTape}
use Rattle.gg_refsim.proofs.mono.Mono.with_clocks.Goals as goal

pub invariant_of-result : goal.invariant_of-result
invariant_of-result c =
    let same = c.piece-piece.ensures.circuit in
    let cells = c.in_ok-cells.cells in
    record {
      state_typed = subst (λ (k : FlatCircuit). IsState k c.in_ok-state.state) same c.in_ok-state.ensures.typed;
      tape_is = subst (λ (k : FlatCircuit). IsTape k c.in_ok-tape.tape) same c.in_ok-tape.ensures.tape;
      order_is = c.in_ok-tape.ensures.signals ∙ c.order.ensures.order;
      signals_typed = subst (λ (k : FlatCircuit). AreTyped (signal_shapes k) cells.values) same c.in_ok-cells.ensures.typed;
      room = subst (λ (k : FlatCircuit). HasRoom k cells.room) same c.in_ok-cells.ensures.room;
    }
