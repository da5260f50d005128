-- A dataflow unit: a piece of a cut circuit as a machine of its own.
-- Source: MEMOCODE 2009 (a node with a latch for each input and a flag for each output); ICCAD 2019 (units of a target
-- that advance when their tokens allow it).
use Rattle.std.specs.Prelude.{ℕ, List, [], Option, None, Bool, false, length, replicate}
use Rattle.gg_bits.specs.Limits.{cycle_limit}
use Rattle.gg_flat.specs.Clock.{Ratio}
use Rattle.gg_flat.specs.State.{State}
use Rattle.gg_node.specs.Machine.{RunsPiece, Machine}
use Rattle.gg_program.specs.Programmed.{Programmed}

-- The machine of a program, with a ratio for each clock of its piece. It runs the piece, and each out needs what the
-- program says. No port is served, since the piece's memories are inside.
abbrev pub unit_machine : Programmed → List Ratio → ℕ → State → List (Option ℕ) → List Bool → Machine
unit_machine program ratios cycle state latches flags =
    record {
      behaviour = RunsPiece program.circuit;
      limit = cycle_limit;
      ratios = ratios;
      needs = program.needs;
      port_count = 0;
      ports = [];
      cycle = cycle;
      state = state;
      served = 0;
      latches = latches;
      flags = flags;
      kept = [];
    }

-- a unit that begins in this state, with this cycle: its latches are empty and its flags clear
abbrev pub started_unit : Programmed → List Ratio → State → ℕ → Machine
started_unit program ratios state cycle = unit_machine program ratios cycle state (replicate (length program.circuit.ins) None) (replicate (length program.circuit.outs) false)
