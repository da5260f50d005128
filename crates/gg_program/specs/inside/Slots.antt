-- More on Slots: what no promise of the program reaches.
-- Source: MEMOCODE 2009 (a node gets its inputs one by one, and gives each output as soon as it can).
use Rattle.std.specs.Prelude.{ℕ, true, slice_set}
use Rattle.gg_flat.specs.Line.{value_at}
use Rattle.gg_flat.specs.Circuit.{FlatCircuit}
use Rattle.gg_program.specs.Slots.{Slotted}

-- the slots with an input put into its place
abbrev pub with_input : FlatCircuit → Slotted → ℕ → ℕ → Slotted
with_input circuit slots place input =
    record {
      values = slice_set slots.values (value_at circuit.ins place) input;
      done = slice_set slots.done (value_at circuit.ins place) true;
      room = slots.room;
    }
