-- More on Machine: what no promise of the program reaches.
-- Source: MEMOCODE 2009 (a node with a latch for each input and a flag for each output); ICCAD 2019 (units of a target
-- that advance when their tokens allow it).
use Rattle.std.specs.Prelude.{List}
use Rattle.gg_flat.specs.Clock.{Ratio}
use Rattle.gg_flat.specs.State.{opening}
use Rattle.gg_node.specs.Machine.{Machine}
use Rattle.gg_program.specs.Programmed.{Programmed}
use Rattle.gg_fame5.specs.Machine.{started_unit}

-- a unit before its first cycle
abbrev pub opening_unit : Programmed → List Ratio → Machine
opening_unit program ratios = started_unit program ratios (opening program.circuit) 0
