-- A combinational loop as it is reported.
-- Source: FIRRTL Specification, "Combinational Loops". That a loop begins with the least path is this program's own
-- rule, so that each loop is reported in one way.
use Rattle.std.specs.Prelude.{◌≡◌, ℕ, ◌<◌, List, length}
use Rattle.std.specs.Ordering.{nat_cmp}
use Rattle.std.specs.Cmp.Lexicographic.{slice_cmp}
use Rattle.std.specs.declared.cmp.Ordering.TheVariants.{Less}
use Rattle.gg_flat.specs.Line.{value_at}
use Rattle.gg_flat.specs.Circuit.{FlatCircuit}
use Rattle.gg_flat.specs.Reads.{IsLoop}
use Rattle.gg_flat_tree.specs.Tree.{path_at}

-- a path comes before another, by their bytes: the first byte that differs decides; if there is none, the shorter
-- path comes first
abbrev pub IsBefore : List ℕ → List ℕ → Type 0
IsBefore a b = slice_cmp nat_cmp a b ≡ Less

-- A loop that begins with the signal that has the least path: no signal's path comes before the first's.
pub record IsToldLoop (circuit : FlatCircuit) (signals : List ℕ) : Type 0 where
  pub loop : IsLoop circuit signals
  pub least : (i : ℕ) → i < length signals → ¬ IsBefore (path_at circuit.paths (value_at signals i)) (path_at circuit.paths (value_at signals 0))
