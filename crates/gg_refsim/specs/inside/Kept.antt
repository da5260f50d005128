-- The data of a simulator between two cycles.
use Rattle.std.specs.Prelude.{◌≡◌}
use Rattle.gg_flat.specs.Line.{AreTyped}
use Rattle.gg_flat.specs.Circuit.{signal_shapes}
use Rattle.gg_flat.specs.State.{State, IsState}
use Rattle.gg_order.specs.runs.Room.{HasRoom}
use Rattle.gg_order.specs.Design.{Ordered}
use Rattle.gg_tape.specs.declared.tape.Tape.{Tape}
use Rattle.gg_tape.specs.inside.Cells.{Celled}
use Rattle.gg_tape.specs.inside.Tape.{signals_of, IsTape}

-- the state and the values of the signals have the circuit's types, the tape has the circuit's lines in the design's order, and there is
-- room for each of them
pub record IsKept (design : Ordered) (state : State) (tape : Tape) (cells : Celled) : Type 0 where
  pub state_typed : IsState design.circuit state
  pub tape_is : IsTape design.circuit tape
  pub order_is : signals_of tape ≡ design.order
  pub signals_typed : AreTyped (signal_shapes design.circuit) cells.values
  pub room : HasRoom design.circuit cells.room
