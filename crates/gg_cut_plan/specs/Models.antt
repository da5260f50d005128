-- Named models: what a contract sees of `Models`, the pairs of a name and a flat circuit in the order of the calls of
-- `add`.
-- Source: ICCAD 2019 (bridges: models in the host's own code that stand at a target's ports).
use Rattle.std.specs.Prelude.{ℕ, List, map}
use Rattle.gg_flat.specs.Circuit.{FlatCircuit}

-- the names of the models, in order
abbrev pub model_names : List (List ℕ × FlatCircuit) → List (List ℕ)
model_names models = map (λ model. model.0) models

-- the circuits of the models, in order
abbrev pub model_circuits : List (List ℕ × FlatCircuit) → List FlatCircuit
model_circuits models = map (λ model. model.1) models
