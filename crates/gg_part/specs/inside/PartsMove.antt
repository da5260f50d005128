-- A part of a circuit where all that it has occurs a second time.
-- Source: MEMOCODE 2009 (a synchronous design as a network of its parts); ICCAD 2019 (one part that serves several instances of a module).
use Rattle.std.specs.Prelude.{ℕ, List, Option, map}
use Rattle.gg_flat.specs.Circuit.{FlatCircuit}
use Rattle.gg_part.specs.Part.{IsPart}
use Rattle.gg_part.specs.inside.StandsAgain.{StandsAgain, placed_at}

-- If all that a part has occurs in a circuit again, the part is a part of the circuit there too, except for its paths.
abbrev pub PartsMove : Type 0
PartsMove =
    (whole part : FlatCircuit) (globals held banks : List ℕ) (clocks : List (Option ℕ)) (signals registers memories : ℕ → ℕ)
    -- The part has these signals, registers and memories of the circuit.
    → IsPart whole part globals held banks clocks
    -- They occur in the circuit again, under the numbers that `signals`, `registers` and `memories` give them.
    → StandsAgain whole part globals held banks signals registers memories
    -- Then the part, with the paths of those signals, is a part of the circuit under those numbers.
    → IsPart whole (placed_at whole part (map signals globals)) (map signals globals) (map registers held) (map memories banks) clocks
