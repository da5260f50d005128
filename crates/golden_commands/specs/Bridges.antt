-- Bridges that are handed in, and what the caller of `golden_with` has to ensure about them.
-- Source: ICCAD 2019 (bridges: models in the host's own code at a target's ports). The form of a name and the limit are this program's own.
use Rattle.std.specs.Prelude.{◌≡◌, ◌≢◌, ℕ, ◌≤◌, List, All, AllPairs, length, map, sum}
use Rattle.gg_flat.specs.Circuit.{FlatCircuit}
use Rattle.gg_flat.specs.State.{State, opening}
use Rattle.gg_cut_plan.specs.Bridges.{Models}
use Rattle.golden_commands.specs.Handed.{IsBridgeName, most_signals}

-- the models of bridges, each with its bridge's name
abbrev pub models_in : {B : Type 0} → (piece : B → FlatCircuit) → List (List ℕ × B) → Models
models_in piece bridges = map (λ pair. (pair.0, piece pair.1)) bridges

-- Each bridge is in the state of zeros.
abbrev pub AreOpening : {B : Type 0} → (piece : B → FlatCircuit) → (state : B → State) → List (List ℕ × B) → Type 0
AreOpening piece state bridges = All (λ pair. state pair.1 ≡ opening (piece pair.1)) bridges

-- The bridges have names, all different, they are in the states of zeros, and their models have few signals.
pub record CanHandIn {B : Type 0} (piece : B → FlatCircuit) (state : B → State) (bridges : List (List ℕ × B)) : Type 0 where
  pub names : All (λ pair. IsBridgeName pair.0) bridges
  pub apart : AllPairs (λ a b. a ≢ b) (map (λ pair. pair.0) bridges)
  pub zeros : AreOpening piece state bridges
  pub few : sum (map (λ pair. length (piece pair.1).signals) bridges) ≤ most_signals
