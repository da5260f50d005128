-- More on Case: definitions that no promise of the program reaches.
-- Source: this program's own.
use Rattle.std.specs.Prelude.{ℕ, IfOk, List, Result}
use Rattle.gg_cut_reference.specs.whole.Whole.{plan_circuit}
use Rattle.gg_cut_plan.specs.Bridges.{Models}
use Rattle.gg_io.specs.Told.{Told}
use Rattle.gg_io.specs.declared.output.Sink
use Rattle.gg_rows.specs.Printed.{AreKept}
use Rattle.gg_rows.specs.inside.Printed.{out_columns}
use Rattle.gg_io.specs.inside.Endings.{PrintsOn}
use Rattle.gg_io.specs.declared.endings.Ending.{Ending}
use Rattle.gg_io.specs.Order.{CanBe, Order, Write}
use Rattle.golden_commands.specs.Commands.{Asked, read_order}
use Rattle.golden_commands.specs.inside.Commands.{fed_order}
use Rattle.golden_commands.specs.Partition.{Known, partition_file_for}
use Rattle.golden_commands.specs.Run.{circuit_file, trace_file_for}
use Rattle.golden_commands.specs.RunText.{IsRunBy, run_rows, run_text}
use Rattle.golden_commands.specs.declared.case.Case.{Case}
use Rattle.golden_commands.specs.declared.case.Fed.{Fed}
use Rattle.golden_commands.specs.Case.{IsCase, IsFed}

-- the case of bytes that the first two files can have
pub record CaseRead (known : Known) (files : List ℕ → Told) (asked : Asked) (case : Case) : Type 0 where
  -- bytes that the two files can have
  pub circuit : List ℕ
  pub partition : List ℕ
  pub at_circuit : CanBe files (circuit_file asked.circuit) circuit
  pub at_partition : CanBe files (partition_file_for known circuit asked.partition) partition
  pub is : IsCase known circuit partition asked.capacity case

-- The text of the run on the trace's columns is printed, or printing stopped.
abbrev pub PrintsFed : {T K : Type 0} → Models → Sink.Ghosts K → (out out' : K) → Fed → Result T Ending → Type 0
PrintsFed models sink out out' fed result =
    (rows : List (List ℕ)) × IsRunBy fed.case.design fed.case.cut.request models fed.trace.columns fed.trace.rows rows
    × PrintsOn sink out out' (run_text fed.case.design fed.case.cut.request rows fed.trace.rows) result

-- host steps bring `told` rows of these columns to the trays of the plan's network
abbrev pub AreFedToTrays : Fed → (told : ℕ) → (kept : List (List ℕ)) → Type 0
AreFedToTrays fed told kept = AreKept fed.case.design fed.case.cut.request fed.case.cut.plan fed.trace.columns fed.trace.rows told kept

-- The text of the run is printed from the network of the plan, or printing stopped. If the whole text was printed, host steps bring its rows, and the
-- conditions of the stops, to the trays.
abbrev pub PrintsFedByNetwork : {T K : Type 0} → Models → Sink.Ghosts K → (out out' : K) → Fed → Result T Ending → Type 0
PrintsFedByNetwork models sink out out' fed result =
    (rows : List (List ℕ)) × IsRunBy fed.case.design fed.case.cut.request models fed.trace.columns fed.trace.rows rows
    × PrintsOn sink out out' (run_text fed.case.design fed.case.cut.request rows fed.trace.rows) result
    × IfOk result (λ done. AreFedToTrays fed (run_rows fed.case.design fed.case.cut.request rows fed.trace.rows) (out_columns (plan_circuit fed.case.design fed.case.cut.request models) rows))

-- the trace of bytes that the third file can have
pub record FedRead (known : Known) (files : List ℕ → Told) (asked : Asked) (trace : List ℕ) (fed : Fed) : Type 0 where
  pub read : CaseRead known files asked fed.case
  pub bytes : List ℕ
  pub at_trace : CanBe files (trace_file_for read.circuit read.partition trace) bytes
  pub is : IsFed known read.circuit read.partition bytes asked.capacity fed

-- the order of a command that only reads the first two files
abbrev pub case_order : Known → Asked → Order
case_order known asked = read_order known asked (λ c p. Write (λ text. Unit {0}))

-- the order of a command that reads the first three files, and then may write anything
abbrev pub trace_order : Known → Asked → (trace : List ℕ) → Order
trace_order known asked trace = fed_order known asked trace (λ c p t. Write (λ text. Unit {0}))
