-- More on Marks: what no promise of the program reaches.
use Rattle.std.specs.Prelude.{◌≡◌, ℕ, List, map, Bool, true, slice_index_or, ◌⊎◌}
use Rattle.gg_flat.specs.declared.piece.Driver.{Driver}
use Rattle.gg_flat.specs.declared.piece.Driver.TheVariants.{Input}
use Rattle.gg_flat.specs.declared.piece.Signal.{Signal}
use Rattle.gg_order.specs.Marks.{is_marked}

-- Exactly what was marked before, and what is named, is marked afterwards.
pub record Marks (Named : ℕ → Type 0) (before after : List Bool) : Type 0 where
  pub kept : (s : ℕ) → is_marked before s ≡ true → is_marked after s ≡ true
  pub marked : (s : ℕ) → Named s → is_marked after s ≡ true
  pub only : (s : ℕ) → is_marked after s ≡ true → is_marked before s ≡ true ⊎ Named s

-- the driver of the signal at a place; past the end the driver of an input
abbrev pub driver_of : List Signal → ℕ → Driver
driver_of signals s = slice_index_or (map (λ signal. signal.driver) signals) s (Input 0)
