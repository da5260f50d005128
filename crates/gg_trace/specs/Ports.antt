-- Ports as lists of names and of widths.
use Rattle.std.specs.Prelude.{◌≡◌, ℕ, ◌<◌, List, [], length, map, slice_index_or, slice_index}
use Rattle.gg_flat.specs.declared.ports.Port.{Port}

-- the names, in port order
abbrev pub names : List Port → List (List ℕ)
names ports = map (λ p. p.name) ports

-- the widths, in port order
abbrev pub widths : List Port → List ℕ
widths ports = map (λ p. p.ty.width) ports

-- the name of port i; an empty one past the end
abbrev pub name_at : List Port → ℕ → List ℕ
name_at ports i = slice_index_or (names ports) i []

-- the width of port i; 0 past the end
abbrev pub width_at : List Port → ℕ → ℕ
width_at ports i = slice_index (widths ports) i

-- port i has this name
pub record IsNamed (ports : List Port) (name : List ℕ) (i : ℕ) : Type 0 where
  pub within : i < length ports
  pub is : name_at ports i ≡ name

-- no two ports have the same name
abbrev pub HasDistinctNames : List Port → Type 0
HasDistinctNames ports = (i j : ℕ) → i < length ports → j < length ports → name_at ports i ≡ name_at ports j → i ≡ j
