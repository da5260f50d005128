-- Entries of bridges without a fault.
-- Source: ICCAD 2019 (bridges: models in the host's own code that stand at a target's ports).
use Rattle.std.specs.Prelude.{ℕ, List, All, Contains}
use Rattle.gg_cut_plan.specs.Models.{model_names}
use Rattle.gg_bridge.specs.Model.{IsModel}
use Rattle.gg_cut_plan.specs.Bridges.{Models}

-- ---- at the ports of a circuit

-- Each model is what a bridge's model has to be, and no name has a dot.
pub record AreModels (models : Models) : Type 0 where
  pub each : All (λ model. IsModel model.1) models
  pub plain : (name : List ℕ) → Contains (model_names models) name → ¬ Contains name 46
