-- The ports of a bridge, by their names.
-- Source: FIRRTL Specification, "Modules" (a port is known by its name); the paths of pipes and of models are this program's own.
use Rattle.std.specs.Prelude.{ℕ, List, [], ◌∷◌, ◌++◌, Bool, false, ◌||◌, if◌then◌else◌, Option, Some, None, map, slice_get, codes, bytes_eq}
use Rattle.gg_flat.specs.Circuit.{FlatCircuit}
use Rattle.gg_bridge.specs.Joined.{joined}

-- what the paths of a bridge's model begin with
abbrev pub front_of : List ℕ → List ℕ
front_of name = codes "bridge:" ++ name ++ codes "."

-- a port's path is its name, or the path of its pipe
abbrev pub is_path_of : List ℕ → Option (List ℕ) → Bool
is_path_of name None = false
is_path_of name (Some path) = bytes_eq path name || bytes_eq path (codes "pipe:" ++ name)

-- whether a signal is the port with this name
abbrev pub is_called : FlatCircuit → List ℕ → ℕ → Bool
is_called circuit name s = is_path_of name (slice_get circuit.paths s)

-- the first of these signals with this name; 0 if there is none
abbrev pub first_called : FlatCircuit → List ℕ → List ℕ → ℕ
first_called circuit name [] = 0
first_called circuit name (s ∷ signals) = if is_called circuit name s then s else first_called circuit name signals

-- ---- where a bridge can be

-- the signals that a bridge sees at the outputs with these names
abbrev pub seen_at : FlatCircuit → List (List ℕ) → List ℕ
seen_at circuit sees = map (λ name. first_called circuit name circuit.outs) sees

-- the signals that a bridge drives at the inputs with these names
abbrev pub driven_at : FlatCircuit → List (List ℕ) → List ℕ
driven_at circuit drives = map (λ name. first_called circuit name circuit.ins) drives

-- the circuit with the bridge's model in it
abbrev pub joined_at : FlatCircuit → List ℕ → FlatCircuit → (sees drives : List (List ℕ)) → FlatCircuit
joined_at circuit name model sees drives = joined circuit (front_of name) model (seen_at circuit sees) (driven_at circuit drives)
