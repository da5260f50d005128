-- The machine of a bridge: it runs the bridge's model, with the model's ports in the order of the machine's ins and outs. No out needs an in.
-- Source: MEMOCODE 2009 (a node with a latch for each input and a flag for each output); ICCAD 2019 (bridges: models in the host's
-- own code, beside the units of a target).
use Rattle.std.specs.Prelude.{ℕ, List, [], Option, None, Bool, false, length, replicate}
use Rattle.gg_bits.specs.Limits.{cycle_limit}
use Rattle.gg_flat.specs.Circuit.{FlatCircuit}
use Rattle.gg_flat.specs.State.{State}
use Rattle.gg_node.specs.Machine.{RunsPiece, Machine}

-- the machine of this model, at this moment of its run
abbrev pub bridge_machine : FlatCircuit → ℕ → State → List (Option ℕ) → List Bool → Machine
bridge_machine piece cycle state latches flags =
    record {
      behaviour = RunsPiece piece;
      limit = cycle_limit;
      ratios = [];
      needs = replicate (length piece.outs) [];
      port_count = 0;
      ports = [];
      cycle = cycle;
      state = state;
      served = 0;
      latches = latches;
      flags = flags;
      kept = [];
    }

-- the machine before its first step, in this cycle and this state
abbrev pub started_bridge : FlatCircuit → ℕ → State → Machine
started_bridge piece cycle state = bridge_machine piece cycle state (replicate (length piece.ins) None) (replicate (length piece.outs) false)
