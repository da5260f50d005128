-- The file of a snapshot, and the text that `resume` writes.
-- Source: this program's own. ICCAD 2019 (Golden Gate) for target cycles as rows.
use Rattle.std.specs.Prelude.{◌≡◌, ◌↔◌, ℕ, ◌+◌, ◌-◌, ◌<◌, ◌≤◌, ◌⊎◌, Contains, List}
use Rattle.gg_cut_plan.specs.Clocks.{ratio_of, ratios_of}
use Rattle.gg_cut_plan.specs.Solves.{AreRows}
use Rattle.gg_flat.specs.Run.{Start}
use Rattle.gg_flat.specs.State.{State}
use Rattle.gg_flat.specs.declared.ports.Port.{Port}
use Rattle.gg_partfile.specs.declared.request.Request.{Request}
use Rattle.gg_rows.specs.Printed.{plan_stops}
use Rattle.gg_snap.specs.text.FaultText.{fault_words}
use Rattle.gg_snap.specs.text.Standing.{IsFirstFault, IsSnap}
use Rattle.gg_snap.specs.declared.text.fault.SnapFault.TheVariants.{S1}
use Rattle.gg_io.specs.Order.{File}
use Rattle.gg_io.specs.Said.{Said}
use Rattle.gg_trace.specs.Last.{halts, row_count}
use Rattle.gg_trace.specs.Printing.{text_from, trace_text}
use Rattle.gg_bits.specs.Limits.{snap_limit}
use Rattle.golden_commands.specs.Lines.{few_rows, snap_fault}
use Rattle.golden_commands.specs.Meaning.{AreMeant, Meaning, meant_reference}
use Rattle.golden_commands.specs.Partition.{Known}
use Rattle.golden_commands.specs.RunText.{columns_of, outputs_kept, shown_ports, stops_kept}

-- ---- the file of a snapshot

-- the bytes are the text of a snapshot of the reference circuit, before a cycle that is at most the trace's number of rows
abbrev pub CanBeResumed : Known → (circuit partition trace snap : List ℕ) → Type 0
CanBeResumed known circuit partition trace snap =
    (meant : Meaning) × (cycle : ℕ) × (state : State) × AreMeant known circuit partition trace meant × IsSnap (meant_reference meant) meant.design.tree snap cycle state × (cycle ≤ meant.cycles)

-- this is reported for bytes that aren't the text of a snapshot: their first line that can't be in one
abbrev pub TellsNoSnap : Known → (circuit partition trace snap : List ℕ) → Said → Type 0
TellsNoSnap known circuit partition trace snap said =
    (meant : Meaning) × (line : ℕ) × AreMeant known circuit partition trace meant × IsFirstFault (meant_reference meant) meant.design.tree snap line × (said ≡ snap_fault (fault_words (S1 line)))

-- this is reported for a snapshot before a later cycle
abbrev pub TellsLate : Known → (circuit partition trace snap : List ℕ) → Said → Type 0
TellsLate known circuit partition trace snap said =
    (meant : Meaning) × (cycle : ℕ) × (state : State) × AreMeant known circuit partition trace meant × IsSnap (meant_reference meant) meant.design.tree snap cycle state
    × (meant.cycles < cycle) × (said ≡ few_rows cycle meant.cycles)

-- a snapshot's file: accepted if the run can be resumed from it
abbrev pub snap_file_for : Known → (circuit partition trace name : List ℕ) → File
snap_file_for known circuit partition trace name =
    record {
      name = name;
      limit = snap_limit;
      accepts = CanBeResumed known circuit partition trace;
      refuses = λ snap said. TellsNoSnap known circuit partition trace snap said ⊎ TellsLate known circuit partition trace snap said;
    }

-- ---- the text

-- the start of a run from a snapshot with this cycle and this state
abbrev pub start_at : Meaning → (cycle : ℕ) → State → Start
start_at meant cycle state = record { cycle = cycle; state = state; ratios = ratios_of meant.design.tree meant.request }

-- The meaning of the files of a circuit, a partition, a trace and a snapshot: the snapshot has this cycle and this state and no other, and these are
-- the rows of the run from there, by cycle. For `resume` a partition has no bridge, and so it is a run of the reference circuit.
pub record HasRest (known : Known) (circuit partition trace snap : List ℕ) (meant : Meaning) (cycle : ℕ) (state : State) (rows : List (List ℕ)) : Type 0 where
  pub are : AreMeant known circuit partition trace meant
  pub reads : IsSnap (meant_reference meant) meant.design.tree snap cycle state
  pub only : (c : ℕ) (s : State) → IsSnap (meant_reference meant) meant.design.tree snap c s → (c ≡ cycle) × (s ≡ state)
  pub within : cycle ≤ meant.cycles
  pub run : AreRows (meant_reference meant) (start_at meant cycle state) meant.columns meant.cycles rows

-- how many cycles, starting at the snapshot's, have a row: up to the first where a stop acts, or all
abbrev pub rest_rows : Meaning → (cycle : ℕ) → (rows : List (List ℕ)) → ℕ
rest_rows meant cycle rows =
    row_count (λ k. halts (plan_stops meant.design meant.request) (columns_of (stops_kept meant.design meant.request) rows) (cycle + k)) (meant.cycles - cycle)

-- a header, and these rows, with the columns of the top's outputs
abbrev pub rest_text : Meaning → (cycle : ℕ) → (rows : List (List ℕ)) → List ℕ
rest_text meant cycle rows =
    text_from (shown_ports meant.design meant.request) (columns_of (outputs_kept meant.design meant.request) rows) cycle (rest_rows meant cycle rows)

-- the text of the run that begins with a snapshot
abbrev pub IsResumedText : Known → (circuit partition trace snap text : List ℕ) → Type 0
IsResumedText known circuit partition trace snap text =
    (meant : Meaning) × (cycle : ℕ) × (state : State) × (rows : List (List ℕ)) × HasRest known circuit partition trace snap meant cycle state rows × (text ≡ rest_text meant cycle rows)

-- ---- `resume` after `save`

-- two requests have the same pipes, in any order
abbrev pub HaveSamePipes : Request → Request → Type 0
HaveSamePipes one other = (name : List ℕ) → Contains one.pipe name ↔ Contains other.pipe name

-- two requests give each clock the same ratio
abbrev pub HaveSameRatios : Request → Request → Type 0
HaveSameRatios one other = (clock : List ℕ) → ratio_of one.clocks clock ≡ ratio_of other.clocks clock

-- A text is the rest of another: the header, and the rows starting at cycle `at`.
pub record IsRestOf (at : ℕ) (whole text : List ℕ) : Type 0 where
  pub ports : List Port
  pub columns : List (List ℕ)
  pub rows : ℕ
  pub within : at ≤ rows
  pub whole_is : whole ≡ trace_text ports columns rows
  pub is : text ≡ text_from ports columns at (rows - at)
