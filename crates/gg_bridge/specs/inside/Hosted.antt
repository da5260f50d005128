-- More on Hosted: what no promise of the program reaches.
-- Source: MEMOCODE 2009 (a node with a latch for each input and a flag for each output); ICCAD 2019 (bridges: models in the host's
-- own code, beside the units of a target).
use Rattle.std.specs.Prelude.{◌≡◌, ◌<◌, ℕ, List, Option, Some, Bool, All, length}
use Rattle.gg_bits.specs.Shape.{Fits}
use Rattle.gg_flat.specs.Circuit.{FlatCircuit}
use Rattle.gg_flat.specs.Line.{shape_at}
use Rattle.gg_flat.specs.State.{State}
use Rattle.gg_flat.specs.Settled.{in_shapes}
use Rattle.gg_node.specs.Machine.{Machine, latch_at}
use Rattle.gg_bridge.specs.Model.{IsModel}
use Rattle.gg_bridge.specs.inside.Model.{IsSaid}
use Rattle.gg_bridge.specs.Turned.{turned}
use Rattle.gg_bridge.specs.inside.Turned.{AreAllPlaces}

-- what a contract sees of a bridge's host: its machine, and the bridge itself
pub record Hosting (B : Type 0) : Type 0 where
  pub machine : Machine
  pub bridge : B

-- A machine's ins are all places of the model's in-signals, in some order, and its outs are places of the model's out-signals.
pub record ArePorts (model : FlatCircuit) (ins outs : List ℕ) : Type 0 where
  pub takes : AreAllPlaces (length model.ins) ins
  pub gives : All (λ place. place < length model.outs) outs

-- What a host keeps of a bridge: the places of its ports, what it says in its state, room for what it sees, and a latch for each in
-- and a flag for each out. Each token has its in's type.
pub record IsHosted (model : FlatCircuit) (state : State) (ins outs said seen : List ℕ) (latches : List (Option ℕ)) (flags : List Bool) : Type 0 where
  pub is_model : IsModel model
  pub ports : ArePorts model ins outs
  pub says : IsSaid model state said
  pub sees : length seen ≡ length model.ins
  pub in_count : length latches ≡ length ins
  pub out_count : length flags ≡ length outs
  pub fit : (i value : ℕ) → latch_at latches i ≡ Some value → Fits (shape_at (in_shapes (turned model ins outs)) i) value
