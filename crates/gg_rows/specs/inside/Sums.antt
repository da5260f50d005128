-- More on Sums: definitions that no promise of the program reaches.
-- Source: this program's own. MEMOCODE 2009 for steps and their count.
use Rattle.std.specs.Prelude.{◌≡◌, ℕ, suc, List, ◌++◌, Bool, true, Result, Ok, length, slice_index}
use Rattle.gg_build.specs.Build.{IsOpeningFrom, IsToRunFrom, run_token}
use Rattle.gg_cut_plan.specs.declared.plan.Plan.{Plan}
use Rattle.gg_rows.specs.inside.Folded.{IsFolded}
use Rattle.gg_rows.specs.SummaryText.{fold_line, last_line, network_line, size_line}
use Rattle.gg_rows.specs.declared.fold.Fold.{Fold}
use Rattle.gg_flat.specs.Circuit.{FlatCircuit}
use Rattle.gg_flat.specs.Line.{value_at}
use Rattle.gg_flat.specs.Run.{Start}
use Rattle.gg_flat.specs.Streams.{Flow}
use Rattle.gg_measure.specs.inside.Nets.{net_left}
use Rattle.gg_net.specs.Kept.{Kept}
use Rattle.gg_net.specs.Network.{Network}
use Rattle.gg_cut_reference.specs.whole.Whole.{plan_circuit}
use Rattle.gg_io.specs.declared.endings.Ending.{Ending}
use Rattle.gg_rows.specs.declared.sums.Sums.{Sums}
use Rattle.gg_rows.specs.Sums.{output_column}

-- the fold of the first n rows of the first two out-signals
abbrev pub FoldsRows : FlatCircuit → (rows : List (List ℕ)) → (n : ℕ) → Fold → Type 0
FoldsRows circuit rows n fold = IsFolded (output_column circuit rows 0) (output_column circuit rows 1) n fold

-- The row of a cycle was folded: its first two values are added, if they are the next ones of their columns.
pub record FoldsRow (before : Fold) (cycle : ℕ) (row : List ℕ) (after : Fold) (answer : Result Bool Ending) : Type 0 where
  pub goes : answer ≡ Ok true
  pub adds : (ys zs : List ℕ) (n : ℕ) → IsFolded ys zs n before → value_at row 0 ≡ slice_index ys n → value_at row 1 ≡ slice_index zs n → IsFolded ys zs (suc n) after

-- The sums of the plan's network before its first step, and of the rows of the run of the plan's circuit.
pub record AreSums {plan : Plan} {start : Start} {columns : List (List ℕ)} {n : ℕ} {flow : Flow} (run : IsToRunFrom plan start columns n flow) (sums : Sums) : Type 0 where
  pub net : Network
  pub opens : IsOpeningFrom plan start (run_token run) columns n net
  pub kept : Kept flow net
  pub machines : sums.machines ≡ length net.machines
  pub channels : sums.channels ≡ length net.wires
  pub steps : sums.steps ≡ net_left net
  pub folds : FoldsRows (plan_circuit run.design run.request run.models) run.rows n sums.fold

-- the four lines for these sums
abbrev pub sums_text : (seed size : ℕ) → Sums → List ℕ
sums_text seed size sums = size_line seed size ++ network_line sums.machines sums.channels sums.steps
    ++ last_line sums.fold.last_y sums.fold.last_z
    ++ fold_line sums.fold.all_y sums.fold.all_z
