-- Which outs of a program a thread has: all of them in their order, or a choice. In a choice an out may come several
-- times.
-- Source: MEMOCODE 2009 (a node that gives one value to several channels, with a flag for each).
use Rattle.std.specs.Prelude.{ℕ, ◌<◌, List, Option, Some, None, All, length, map, ⊤}
use Rattle.gg_flat.specs.Line.{value_at}
use Rattle.gg_flat.specs.Circuit.{FlatCircuit}
use Rattle.gg_node.specs.Machine.{needs_at}
use Rattle.gg_program.specs.Programmed.{Programmed}

-- the place among the program's outs of out o of a thread
abbrev pub out_of : Option (List ℕ) → ℕ → ℕ
out_of None o = o
out_of (Some outs) o = value_at outs o

-- the number of outs of a thread, if the program has n
abbrev pub out_count : ℕ → Option (List ℕ) → ℕ
out_count n None = n
out_count n (Some outs) = length outs

-- the chosen outs are outs of a circuit
abbrev pub AreOuts : FlatCircuit → Option (List ℕ) → Type 0
AreOuts circuit None = ⊤
AreOuts circuit (Some outs) = All (λ out. out < length circuit.outs) outs

-- the out-signals that a thread has: all of these, or its choice
abbrev pub chosen_outs : List ℕ → Option (List ℕ) → List ℕ
chosen_outs all None = all
chosen_outs all (Some outs) = map (value_at all) outs

-- the needs of the outs that a thread has: all of these, or its choice
abbrev pub chosen_needs : List (List ℕ) → Option (List ℕ) → List (List ℕ)
chosen_needs all None = all
chosen_needs all (Some outs) = map (needs_at all) outs

-- the program with only the outs of a thread
abbrev pub forked : Programmed → Option (List ℕ) → Programmed
forked program outs =
    record {
      circuit = record program.circuit { outs = chosen_outs program.circuit.outs outs };
      needs = chosen_needs program.needs outs;
    }
