-- The runs of networks for `save` and `resume`, and what they report.
-- Source: this program's own. MEMOCODE 2009 (a network of machines has the streams of the synchronous circuit that it was cut from, from any state).
use Rattle.std.specs.Prelude.{◌≡◌, ℕ, ◌-◌, ◌<◌, ◌≤◌, ◌++◌, ◌⊎◌, List, [], Option, None, Some, map, replicate, take}
use Rattle.gg_flat.specs.Along.{rows_from}
use Rattle.gg_flat.specs.Run.{state_at}
use Rattle.gg_flat.specs.State.{State}
use Rattle.gg_flat.specs.Streams.{Flow}
use Rattle.gg_order.specs.Design.{Ordered}
use Rattle.gg_cut_reference.specs.Made.{plan_reference}
use Rattle.gg_build.specs.plan.Built.{flow_of}
use Rattle.gg_build.specs.Build.{circuit_order}
use Rattle.gg_cut_reference.specs.whole.Whole.{plan_begin, plan_circuit}
use Rattle.gg_cut_plan.specs.Bridges.{Models}
use Rattle.gg_rows.specs.inside.Printed.{IsFirst, ends_run}
use Rattle.gg_rows.specs.Printed.{plan_stops}
use Rattle.gg_snap.specs.text.FaultText.{fault_words}
use Rattle.gg_snap.specs.text.Lines.{snap_text}
use Rattle.gg_snap.specs.text.Standing.{IsFirstFault, IsSnap}
use Rattle.gg_snap.specs.text.Table.{rows_of}
use Rattle.gg_snap.specs.declared.text.fault.SnapFault.TheVariants.{S1}
use Rattle.gg_io.specs.Said.{Said}
use Rattle.golden_commands.specs.Lines.{few_rows, snap_fault}
use Rattle.golden_commands.specs.Meaning.{Meaning}
use Rattle.golden_commands.specs.inside.Replayed.{IsToReplay, fed_start}
use Rattle.golden_commands.specs.Resumed.{start_at}
use Rattle.golden_commands.specs.RunText.{shown_ports}
use Rattle.golden_commands.specs.declared.case.Fed.{Fed}

-- ---- the files

-- the design, the request and the columns that were read
abbrev pub meant_by : Fed → Meaning
meant_by fed = record { design = fed.case.design; request = fed.case.cut.request; cycles = fed.trace.rows; columns = fed.trace.columns }

-- the same circuit and partition, with only the first rows of the trace
abbrev pub upto : (rows : ℕ) → Fed → Fed
upto rows fed = record { case = fed.case; trace = record { rows = rows; columns = map (take rows) fed.trace.columns } }

-- `fed` is `whole` with only the rows of the trace before cycle `at`.
pub record IsUpto (whole : Fed) (at : ℕ) (fed : Fed) : Type 0 where
  pub is : fed ≡ upto fed.trace.rows whole
  pub within : fed.trace.rows ≤ whole.trace.rows
  pub below : fed.trace.rows ≤ at
  -- no more rows than `at`, and all that the trace has of these
  pub most : (fed.trace.rows ≡ at) ⊎ (fed.trace.rows ≡ whole.trace.rows)

-- ---- `save`

-- the first cycle where a stop ends a run of `cycles` cycles, if it is one of the trace's cycles
abbrev pub FindsStop : (fed : Fed) {flow : Flow} (replay : IsToReplay fed flow) (cycles : ℕ) → Option ℕ → Type 0
FindsStop fed replay cycles stop =
    IsFirst (ends_run (plan_stops replay.run.design replay.run.request) (plan_circuit replay.run.design replay.run.request replay.run.models) (shown_ports replay.run.design replay.run.request) replay.run.rows cycles) fed.trace.rows stop

-- the text of the snapshot of the reference circuit after the trace's cycles; the request has no bridge
abbrev pub text_after : (fed : Fed) {flow : Flow} (replay : IsToReplay fed flow) → List ℕ
text_after fed replay =
    snap_text (rows_of (plan_reference replay.run.design replay.run.request) replay.run.design.tree) fed.trace.rows
    (state_at (plan_reference replay.run.design replay.run.request) (fed_start fed) replay.run.rows fed.trace.rows)

-- This is reported because a run of `cycles` cycles doesn't come to cycle `at`: a stop ends it, or it has too few cycles.
pub data TellsEarly (fed : Fed) {flow : Flow} (replay : IsToReplay fed flow) (cycles at : ℕ) (said : Said) : Type 0 where
  Halted : (stop : ℕ) (first : FindsStop fed replay cycles (Some stop)) (is : said ≡ few_rows at stop) → TellsEarly fed replay cycles at said
  Short : (none : FindsStop fed replay cycles None) (few : cycles < at) (is : said ≡ few_rows at cycles) → TellsEarly fed replay cycles at said

-- ---- `resume`

-- the rows, by cycle, of the run of the plan's circuit that begins with a cycle and a state, computed along its order
abbrev pub resumed_rows : Models → Fed → (cycle : ℕ) → State → List (List ℕ)
resumed_rows models fed cycle state =
    replicate cycle []
    ++ rows_from (plan_circuit fed.case.design fed.case.cut.request models) (circuit_order fed.case.design fed.case.cut.request models)
    (plan_begin fed.case.design fed.case.cut.request models (start_at (meant_by fed) cycle state)) fed.trace.columns (fed.trace.rows - cycle)

-- the flow of the plan's network from there
abbrev pub resumed_flow : Models → Fed → (cycle : ℕ) → State → Flow
resumed_flow models fed cycle state = flow_of fed.case.design fed.case.cut.request fed.case.cut.plan (start_at (meant_by fed) cycle state) (resumed_rows models fed cycle state)

-- This is reported for bytes that aren't the text of a snapshot of this circuit, or for a snapshot before a cycle that is later than this number of
-- rows.
abbrev pub TellsSnapOf : (reference : Ordered) (rows : ℕ) (bytes : List ℕ) → Said → Type 0
TellsSnapOf reference rows bytes said =
    ((line : ℕ) × IsFirstFault reference.circuit reference.tree bytes line × (said ≡ snap_fault (fault_words (S1 line))))
    ⊎ ((cycle : ℕ) × (state : State) × IsSnap reference.circuit reference.tree bytes cycle state × (rows < cycle) × (said ≡ few_rows cycle rows))
