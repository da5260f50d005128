-- More on Turned: what no promise of the program reaches.
-- Source: FIRRTL Specification, "Circuit Definitions" (ports are known by their names, whatever their order).
use Rattle.std.specs.Prelude.{◌≡◌, ◌≢◌, ℕ, ◌<◌, List, length, map, Contains, All, AllPairs}
use Rattle.std.specs.List.{range_with_len}
use Rattle.gg_flat.specs.Line.{value_at}
use Rattle.gg_bridge.specs.Turned.{place_in}

-- the inputs of the circuit, from the inputs of the turned circuit
abbrev pub turned_back : List ℕ → List ℕ → List ℕ
turned_back ins inputs = map (λ place. value_at inputs (place_in ins place)) (range_with_len 0 (length ins))

-- these are all places of a list of `count` entries, each once
pub record AreAllPlaces (count : ℕ) (places : List ℕ) : Type 0 where
  pub total : length places ≡ count
  pub known : All (λ place. place < count) places
  pub every : (place : ℕ) → place < count → Contains places place
  pub once : AllPairs (λ a b. a ≢ b) places
