-- The names that a steps file and the program's lines use for the parts of a network.
-- Source: this program's own. Channels, machines and ports have numbers in a network (gg_net) and names in a text.
use Rattle.std.specs.Prelude.{ℕ, List, [], ◌∷◌, Option, None, Some, slice_get, slice_index_or}
use Rattle.std.specs.List.{position}
use Rattle.std.specs.Str.{bytes_eq}

-- The names of a network, each as its bytes: the names of channels and machines, by their numbers, and for each machine
-- the names of its ports, by the ports' numbers.
pub record Naming : Type 0 where
  pub channels : List (List ℕ)
  pub machines : List (List ℕ)
  pub ports : List (List (List ℕ))

-- The number that a word names: the place of the first name that equals the word. An empty word names nothing.
abbrev pub first_place : List ℕ → List (List ℕ) → Option ℕ
first_place [] names = None
first_place (byte ∷ word) names = position (bytes_eq (byte ∷ word)) names

-- a name, or no bytes if there is none
abbrev pub name_or_nothing : Option (List ℕ) → List ℕ
name_or_nothing None = []
name_or_nothing (Some name) = name

-- the name of a number; no bytes if there is none
abbrev pub name_at : List (List ℕ) → ℕ → List ℕ
name_at names number = name_or_nothing (slice_get names number)

-- the names of the ports of a machine; none if there is no such machine
abbrev pub ports_at : Naming → ℕ → List (List ℕ)
ports_at naming machine = slice_index_or naming.ports machine []
