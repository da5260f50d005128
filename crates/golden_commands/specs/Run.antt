-- The files of a circuit and of a trace, and the text that `run` writes.
-- Source: this program's own, by the crates that define circuits, traces and runs.
use Rattle.std.specs.Prelude.{◌≡◌, ◌≢◌, ℕ, List, []}
use Rattle.gg_flat.specs.Circuit.{FlatCircuit}
use Rattle.gg_flat.specs.Run.{IsRun}
use Rattle.gg_flat_tree.specs.Scoped.{stop_signals}
use Rattle.gg_front.specs.Meaning.{Means, MeansDesign}
use Rattle.gg_order.specs.Design.{Ordered}
use Rattle.gg_partfile.specs.Partition.{IsPartition}
use Rattle.gg_partfile.specs.declared.request.Request.{Request}
use Rattle.gg_front.specs.Accepted.{IsAcceptedText}
use Rattle.gg_front.specs.Fault.{HasFrontFault, front_text}
use Rattle.gg_front.specs.declared.fault.FrontFault.{FrontFault}
use Rattle.gg_front.specs.declared.fault.FrontFault.TheVariants as front
use Rattle.gg_flat.specs.Ports.{in_ports}
use Rattle.gg_flat_tree.specs.OutputPorts.{output_ports}
use Rattle.gg_trace.specs.Last.{halts, row_count}
use Rattle.gg_trace.specs.Printing.{trace_text}
use Rattle.gg_trace.specs.FaultText.{fault_words}
use Rattle.gg_trace.specs.Trace.{Columns, IsFirstFault}
use Rattle.gg_trace.specs.declared.faults.TraceFault.{TraceFault}
use Rattle.gg_io.specs.Said.{Said}
use Rattle.gg_bits.specs.Limits.{circuit_limit, trace_limit}
use Rattle.golden_commands.specs.Lines.{circuit_fault, trace_fault}
use Rattle.gg_io.specs.Order.{File}
use Rattle.golden_commands.specs.Partition.{Known}
use Rattle.golden_commands.specs.RunText.{IsTraceOf, IsRunText, columns_of, fed_ports, outputs_of}

-- This is reported for the bytes of a circuit's file: their fault of reading, or the first fault of the circuit that
-- they spell.
abbrev pub TellsCircuit : (bytes : List ℕ) → Said → Type 0
TellsCircuit bytes said =
    (fault : FrontFault) × HasFrontFault bytes fault × (fault ≢ front.NoMemory) × (said ≡ circuit_fault (front_text fault))

-- the circuit's file, which may have 4 MiB: accepted if it spells a circuit without a fault
abbrev pub circuit_file : (name : List ℕ) → File
circuit_file name = record { name = name; limit = circuit_limit; accepts = IsAcceptedText; refuses = TellsCircuit }

-- This is reported for the bytes of a trace of the circuit's inputs that no bridge drives: their first fault.
abbrev pub TellsTraceOf : (flat : FlatCircuit) (request : Request) (trace : List ℕ) → Said → Type 0
TellsTraceOf flat request trace said = (fault : TraceFault) × IsFirstFault (fed_ports flat request) trace fault × (said ≡ trace_fault (fault_words fault))

-- a trace's file, which may have 64 MiB, with these bytes accepted and this reported for others
abbrev pub trace_file : (name : List ℕ) (IsTrace : List ℕ → Type 0) (TellsFault : List ℕ → Said → Type 0) → File
trace_file name IsTrace TellsFault = record { name = name; limit = trace_limit; accepts = IsTrace; refuses = TellsFault }

-- a trace of the inputs of the circuit that these bytes mean, without the inputs that the partition's bridges drive
abbrev pub IsTraceFor : (circuit partition trace : List ℕ) → Type 0
IsTraceFor circuit partition trace =
    (flat : FlatCircuit) × Means circuit flat × ((request : Request) × IsPartition partition request × IsTraceOf flat request trace)

-- this is reported for a trace with a fault for that circuit and that partition
abbrev pub TellsTraceFor : (circuit partition trace : List ℕ) → Said → Type 0
TellsTraceFor circuit partition trace said =
    (flat : FlatCircuit) × Means circuit flat × ((request : Request) × IsPartition partition request × TellsTraceOf flat request trace said)

-- the file of a trace for that circuit and that partition
abbrev pub trace_file_for : (circuit partition name : List ℕ) → File
trace_file_for circuit partition name = trace_file name (IsTraceFor circuit partition) (TellsTraceFor circuit partition)

-- The text of the run of a design that these bytes mean, with the pipes, the clocks and the bridges of the partition's request, on this
-- trace.
abbrev pub IsTextOf : Known → (circuit partition trace text : List ℕ) → Type 0
IsTextOf known circuit partition trace text =
    (design : Ordered) × MeansDesign circuit design × ((request : Request) × IsPartition partition request × IsRunText design request known.models trace text)

-- The text of the run of the flat circuit that these bytes mean, without pipes and bridges, on this trace. The trace gives the columns of the
-- circuit's inputs for some cycles. `rows` is its run on them, where each clock has an edge in each cycle. The text is a header, and a row for each
-- cycle up to the first where the condition of a stop is 1: the values of the top's outputs. A partition without pipes, bridges and clocks leaves the
-- run so.
pub record IsPlainText (circuit trace text : List ℕ) : Type 0 where
  pub design : Ordered
  pub means : MeansDesign circuit design
  pub cycles : ℕ
  pub columns : List (List ℕ)
  pub rows : List (List ℕ)
  pub feeds : Columns (in_ports design.circuit) trace cycles columns
  pub run : IsRun design.circuit columns cycles rows
  pub is : text ≡ trace_text (output_ports design.circuit design.tree) (columns_of (outputs_of design.tree) rows) (row_count (halts [] (columns_of (stop_signals design.tree) rows)) cycles)
