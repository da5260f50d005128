-- The place of a name in a list of names.
use Rattle.std.specs.Prelude.{ℕ, ◌+◌, List, [], ◌∷◌, Option, None, Some, option_map, if◌then◌else◌}
use Rattle.std.specs.Str.{bytes_eq}

-- the place of the first name that equals `name`, or none
abbrev pub place_of : List ℕ → List (List ℕ) → Option ℕ
place_of name [] = None
place_of name (n ∷ ns) = if bytes_eq name n then Some 0 else option_map (λ i. i + 1) (place_of name ns)
