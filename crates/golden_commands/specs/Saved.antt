-- The text that `save` writes: the snapshot of a run before a cycle.
-- Source: this program's own. MEMOCODE 2009 (the state of a synchronous circuit between two cycles is all that its further run depends
-- on).
use Rattle.std.specs.Prelude.{◌≡◌, ℕ, ◌<◌, ◌≤◌, ◌-◌, ◌==◌, ◌⊎◌, if◌then◌else◌, List}
use Rattle.gg_flat.specs.Run.{state_at}
use Rattle.gg_flat.specs.State.{State}
use Rattle.gg_cut_reference.specs.Follows.{plan_start}
use Rattle.gg_snap.specs.text.Lines.{snap_text}
use Rattle.gg_io.specs.Order.{File}
use Rattle.gg_io.specs.Said.{Said}
use Rattle.golden_commands.specs.Lines.{few_rows}
use Rattle.golden_commands.specs.Meaning.{AreMeant, Meaning, meant_reference, meant_values}
use Rattle.golden_commands.specs.Partition.{Known}
use Rattle.golden_commands.specs.Run.{TellsTraceFor, trace_file}
use Rattle.golden_commands.specs.RunText.{IsRunBy, run_rows}

-- ---- how far a run may be saved

-- The last cycle before which a run can be saved: the number of its cycles, if each has a row. If a stop ends it before that, the cycle of
-- the last row: a state after a stop would run on.
abbrev pub save_limit : Meaning → (rows : List (List ℕ)) → ℕ
save_limit meant rows =
    if run_rows meant.design meant.request rows meant.cycles == meant.cycles then meant.cycles else run_rows meant.design meant.request rows meant.cycles - 1

-- The meaning of the three files, with the run on the trace. For `save` a partition has no bridge, and so it is a run of the reference circuit.
pub record HasRun (known : Known) (circuit partition trace : List ℕ) (meant : Meaning) (rows : List (List ℕ)) : Type 0 where
  pub are : AreMeant known circuit partition trace meant
  pub run : IsRunBy meant.design meant.request known.models meant.columns meant.cycles rows

-- the run can be saved before cycle `at`
abbrev pub CanBeSaved : Known → (circuit partition : List ℕ) (at : ℕ) (trace : List ℕ) → Type 0
CanBeSaved known circuit partition at trace = (meant : Meaning) × (rows : List (List ℕ)) × HasRun known circuit partition trace meant rows × (at ≤ save_limit meant rows)

-- this is reported if the run is too short
abbrev pub TellsFew : Known → (circuit partition : List ℕ) (at : ℕ) (trace : List ℕ) → Said → Type 0
TellsFew known circuit partition at trace said =
    (meant : Meaning) × (rows : List (List ℕ)) × HasRun known circuit partition trace meant rows × (save_limit meant rows < at) × (said ≡ few_rows at (save_limit meant rows))

-- the file of a trace for a circuit and a partition, if the run is to be saved before cycle `at`
abbrev pub saved_file_for : Known → (circuit partition : List ℕ) (at : ℕ) (name : List ℕ) → File
saved_file_for known circuit partition at name =
    trace_file name (CanBeSaved known circuit partition at) (λ trace said. TellsTraceFor circuit partition trace said ⊎ TellsFew known circuit partition at trace said)

-- ---- the text

-- the state of the run before cycle `at`
abbrev pub state_before : Meaning → (rows : List (List ℕ)) → (at : ℕ) → State
state_before meant rows at = state_at (meant_reference meant) (plan_start meant.design meant.request) rows at

-- The text of the snapshot of the run before cycle `at`. It doesn't depend on the units of the partition, its memories, its direct
-- channels or its capacities.
abbrev pub IsSavedText : Known → (circuit partition : List ℕ) (at : ℕ) (trace text : List ℕ) → Type 0
IsSavedText known circuit partition at trace text =
    (meant : Meaning) × (rows : List (List ℕ)) × HasRun known circuit partition trace meant rows × (at ≤ save_limit meant rows)
    × (text ≡ snap_text (meant_values meant) at (state_before meant rows at))
