-- Drivers by the places of names.
-- Source: FIRRTL Specification, "Clock Type"; the places are this program's own way to follow drivers.
use Rattle.std.specs.Prelude.{◌≡◌, ℕ, zero, suc, ◌<◌, List, Option, Some, None, length, map, option_map, slice_get, slice_index, slice_set, if◌then◌else◌, unwrap_or}
use Rattle.gg_ast.specs.declared.statement.Stmt.{Stmt}
use Rattle.gg_ast.specs.Places.{place_of}
use Rattle.gg_bits.specs.Lists.{find_word}
use Rattle.gg_types.specs.declared.way.Way.{Way}
use Rattle.gg_types.specs.Clocks.{is_followed, lead_of}

-- the place of a name among all names of the module, if it is declared
abbrev pub place_in : List ℕ → List (List ℕ × Way) → Option ℕ
place_in name ways = place_of name (map (λ w. w.0) ways)

-- the place that a name at a place leads to; the same place if it leads to no declared name
abbrev pub next_at : List (List ℕ × Way) → ℕ → Option (List ℕ) → ℕ
next_at ways place None = place
next_at ways place (Some name) = unwrap_or (place_in name ways) place

-- the place that a name at this place leads to by these statements; the same place if its driver isn't followed
abbrev pub next_place : List (List ℕ × Way) → List Stmt → List ℕ → ℕ → ℕ
next_place ways statements name place =
    if is_followed (find_word name ways) then next_at ways place (lead_of name statements) else place

-- n places of n names
pub record ArePlaces (n : ℕ) (places : List ℕ) : Type 0 where
  pub length_is : length places ≡ n
  pub within : (k : ℕ) → k < n → slice_index places k < n

-- the list has, at the place of a name, where its driver leads by these statements
pub record TellsNext (ways : List (List ℕ × Way)) (statements : List Stmt) (next : List ℕ) : Type 0 where
  pub places : ArePlaces (length ways) next
  pub told : (name : List ℕ) (place : ℕ) → place_in name ways ≡ Some place → slice_index next place ≡ next_place ways statements name place

-- the places after a statement drives the name d.0, which has this place: the place now leads where d.1 leads, if the name's driver is
-- followed
abbrev pub set_next : List (List ℕ × Way) → List ℕ → List ℕ × Option (List ℕ) → Option ℕ → List ℕ
set_next ways next d None = next
set_next ways next d (Some place) =
    if is_followed (find_word d.0 ways) then slice_set next place (next_at ways place d.1) else next

-- the places after a statement that may drive a name
abbrev pub with_driven : List (List ℕ × Way) → List ℕ → Option (List ℕ × Option (List ℕ)) → List ℕ
with_driven ways next None = next
with_driven ways next (Some d) = set_next ways next d (place_in d.0 ways)

-- the place that n steps lead to
abbrev pub iterate : ℕ → List ℕ → ℕ → ℕ
iterate zero next place = place
iterate (suc n) next place = iterate n next (slice_index next place)

-- each place leads to where n steps lead
pub record Reaches (n : ℕ) (next reached : List ℕ) : Type 0 where
  pub places : ArePlaces (length next) reached
  pub steps : (k : ℕ) → k < length next → slice_index reached k ≡ iterate n next k

-- the way of the name at a place
abbrev pub way_at : List (List ℕ × Way) → ℕ → Option Way
way_at ways place = option_map (λ w. w.1) (slice_get ways place)
