-- Ratios by the names of clocks, while they are collected.
-- Source: this program's own.
use Rattle.std.specs.Prelude.{◌≡◌, ℕ, ◌<◌, ◌≤◌, List, [], Option, Some, None, length, take, find, option_map, bytes_eq, slice_index_or, Contains}
use Rattle.gg_flat.specs.Clock.{Ratio}
use Rattle.gg_cut_plan.specs.Clocks.{ratio_with}

-- the ratio that is given for a name, if one is
abbrev pub ratio_named : List (List ℕ × (ℕ × ℕ)) → List ℕ → Option Ratio
ratio_named clocks name = option_map (λ pair. ratio_with pair.1) (find (λ pair. bytes_eq pair.0 name) clocks)

-- These are the names of the first i clocks, with the ratios that are given for them.
pub record AreNamed (clocks : List (List ℕ × (ℕ × ℕ))) (i : ℕ) (names : List (List ℕ)) (ratios : List Ratio) : Type 0 where
  pub count : length ratios ≡ length names
  pub few : length names ≤ i
  pub found : (k : ℕ) (any : Ratio) → k < length names → ratio_named (take i clocks) (slice_index_or names k []) ≡ Some (slice_index_or ratios k any)
  pub missing : (name : List ℕ) → ¬ Contains names name → ratio_named (take i clocks) name ≡ None
