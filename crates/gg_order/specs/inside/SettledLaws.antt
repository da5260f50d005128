-- The settled row of a circuit that has an order.
-- Source: FIRRTL Specification, "Combinational Loops"; MEMOCODE 2009 for what an output depends on.
use Rattle.std.specs.Prelude.{ℕ, ◌<◌, List, Contains, length}
use Rattle.gg_flat.specs.Line.{value_at}
use Rattle.gg_flat.specs.Circuit.{FlatCircuit}
use Rattle.gg_flat.specs.Reads.{Reaches}
use Rattle.gg_flat.specs.State.{State, IsState}
use Rattle.gg_flat.specs.Settled.{Settled, IsInputs}
use Rattle.gg_flat.specs.Depends.{DependsOn}
use Rattle.gg_flat.specs.Along.{settled_along}
use Rattle.gg_flat.specs.WellFormed.{IsWellFormed}
use Rattle.gg_flat.specs.Order.{IsOrder}

-- The value of a signal depends only on the in-signals that the signal reaches.
abbrev pub DependsOnReached : Type 0
DependsOnReached =
    (circuit : FlatCircuit) (order : List ℕ) (s : ℕ) (places : List ℕ)
    -- The circuit is well formed and has an order.
    → IsWellFormed circuit → IsOrder circuit order
    -- The places have each in-signal that signal s reaches, and perhaps more.
    → s < length circuit.signals
    → ((place : ℕ) → place < length circuit.ins → Reaches circuit s (value_at circuit.ins place) → Contains places place)
    -- The signal depends on the in-signals at these places.
    → DependsOn circuit s places

-- The row that is computed along an order is settled.
abbrev pub SettlesAlong : Type 0
SettlesAlong =
    (circuit : FlatCircuit) (order : List ℕ) (state : State) (inputs : List ℕ)
    -- The circuit is well formed and has an order.
    → IsWellFormed circuit → IsOrder circuit order
    -- State and inputs are of the circuit's counts and types.
    → IsState circuit state → IsInputs circuit inputs
    -- The values that are computed along the order are settled.
    → Settled circuit state inputs (settled_along circuit order state inputs)
