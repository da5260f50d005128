-- The models of the bridges that are handed in to the program, each with the bridge's name, and what its caller has to ensure about them.
-- Source: ICCAD 2019 (bridges: models in the host's own code at a target's ports). The form of a name and the limit are this program's own.
use Rattle.std.specs.Prelude.{◌≡◌, ◌≢◌, ℕ, ◌<◌, ◌≤◌, Bool, true, ◌||◌, ◌==◌, List, All, AllPairs, length, map, sum}
use Rattle.std.specs.List.{list_all}
use Rattle.std.specs.Char.{is_ascii_alphanumeric}
use Rattle.gg_cut_plan.specs.Models.{model_names}
use Rattle.gg_bridge.specs.Model.{IsModel}
use Rattle.gg_cut_plan.specs.Bridges.{Models}

-- an ASCII letter, a digit or `_`
abbrev pub is_word_byte : ℕ → Bool
is_word_byte b = is_ascii_alphanumeric b || b == 95

-- a name has at least one such byte, and no other
pub record IsBridgeName (name : List ℕ) : Type 0 where
  pub some : 0 < length name
  pub bytes : list_all is_word_byte name ≡ true

-- the most signals that all models together may have
abbrev pub most_signals : ℕ
most_signals = 4000000000

-- Each model is one of a bridge. The bridges have names, all different, and the models have few signals.
pub record AreHandedIn (models : Models) : Type 0 where
  pub each : All (λ model. IsModel model.1) models
  pub names : All (λ model. IsBridgeName model.0) models
  pub apart : AllPairs (λ a b. a ≢ b) (model_names models)
  pub few : sum (map (λ model. length model.1.signals) models) ≤ most_signals
