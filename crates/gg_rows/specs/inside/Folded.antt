-- The fold of the first rows of a demo.
-- Source: this program's own.
use Rattle.std.specs.Prelude.{◌≡◌, ℕ, ◌-◌, ◌<◌, List, slice_index}
use Rattle.gg_rows.specs.declared.fold.Fold.{Fold}
use Rattle.gg_rows.specs.SummaryText.{folded}

-- The fold of the first n values of these columns.
pub record IsFolded (ys zs : List ℕ) (n : ℕ) (fold : Fold) : Type 0 where
  pub last_y : 0 < n → fold.last_y ≡ slice_index ys (n - 1)
  pub last_z : 0 < n → fold.last_z ≡ slice_index zs (n - 1)
  pub all_y : fold.all_y ≡ folded ys n
  pub all_z : fold.all_z ≡ folded zs n
