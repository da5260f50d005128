-- More on Cycle: what no promise of the program reaches.
-- Source: FIRRTL Specification, "Registers", "Clock" types; ICCAD 2019 for target cycles as rows. A cycle is a base tick.
use Rattle.std.specs.Prelude.{ℕ, List}
use Rattle.gg_flat.specs.Clock.{Ratio}
use Rattle.gg_flat.specs.Circuit.{FlatCircuit}
use Rattle.gg_flat.specs.State.{State, opening}

-- What a contract sees of a simulator: a circuit, the ratios of its clocks, how many cycles were made, and its state. A clock without a
-- ratio has an edge in each cycle.
pub record Simulation : Type 0 where
  pub circuit : FlatCircuit
  pub ratios : List Ratio
  pub cycle : ℕ
  pub state : State

-- the simulator of a circuit before the first cycle
abbrev pub begun : FlatCircuit → List Ratio → Simulation
begun circuit ratios = record { circuit = circuit; ratios = ratios; cycle = 0; state = opening circuit }
