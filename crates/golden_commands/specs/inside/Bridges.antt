-- More on Bridges: definitions that no promise of the program reaches.
-- Source: ICCAD 2019 (bridges: models in the host's own code at a target's ports). The form of a name and the limit are this program's own.
use Rattle.std.specs.Prelude.{◌≡◌, ℕ, List}
use Rattle.gg_flat.specs.Circuit.{FlatCircuit}
use Rattle.gg_flat.specs.State.{State}
use Rattle.gg_cut_plan.specs.Bridges.{Models}
use Rattle.golden_commands.specs.Bridges.{AreOpening, models_in}

-- These are the models of bridges that are in the states of zeros.
pub record HaveModels {B : Type 0} (piece : B → FlatCircuit) (state : B → State) (bridges : List (List ℕ × B)) (models : Models) : Type 0 where
  pub are : models ≡ models_in piece bridges
  pub zeros : AreOpening piece state bridges
