-- The text that `run` writes: the text of the run of a design on a trace, with the pipes, the clocks and the bridges of a request.
-- Source: ICCAD 2019 (Golden Gate) for target cycles as rows, and for bridges; FIRRTL Specification for what a cycle is (crate gg_flat). MEMOCODE
-- 2009 (a buffer with a token in it at the start) for pipes. gg_cut_reference defines the reference circuit with pipes, and the circuit with the
-- models of bridges. Ratios of clocks are this program's own (gg_flat's `edge`).
use Rattle.std.specs.Prelude.{◌≡◌, ℕ, List, filter, map, not}
use Rattle.gg_flat.specs.Circuit.{FlatCircuit}
use Rattle.gg_flat.specs.Run.{IsRunFrom, clocked_start, column}
use Rattle.gg_flat.specs.declared.ports.Port.{Port}
use Rattle.gg_trace.specs.Trace.{Columns}
use Rattle.gg_trace.specs.Last.{halts, row_count}
use Rattle.gg_trace.specs.Printing.{trace_text}
use Rattle.gg_flat.specs.Ports.{in_ports}
use Rattle.gg_flat_tree.specs.OutputPorts.{output_ports}
use Rattle.gg_flat_tree.specs.Scoped.{output_signals, stop_signals}
use Rattle.gg_flat_tree.specs.Tree.{InstanceTree, instance_at, path_at}
use Rattle.gg_order.specs.Design.{Ordered}
use Rattle.gg_partfile.specs.Size.{all_driven, all_seen}
use Rattle.gg_partfile.specs.declared.request.Request.{Request}
use Rattle.gg_cut_plan.specs.Bridges.{Models}
use Rattle.gg_cut_plan.specs.Clocks.{ratios_of}
use Rattle.gg_cut_plan.specs.Direct.{plan_hub}
use Rattle.gg_cut_plan.specs.Listed.{is_among}
use Rattle.gg_cut_reference.specs.Links.{taken_as}
use Rattle.gg_cut_reference.specs.whole.Whole.{plan_circuit}
use Rattle.gg_rows.specs.Printed.{plan_stops}

-- the top's outputs, in port order
abbrev pub outputs_of : InstanceTree → List ℕ
outputs_of tree = output_signals (instance_at tree 0).ports

-- the columns that these signals have in the rows, in this order
abbrev pub columns_of : List ℕ → List (List ℕ) → List (List ℕ)
columns_of signals rows = map (column rows) signals

-- ---- the ports that no bridge has

-- the ports without any of these names
abbrev pub ports_without : List (List ℕ) → List Port → List Port
ports_without names ports = filter (λ port. not (is_among names port.name)) ports

-- the input ports of a circuit that no bridge drives: the trace has a column for each
abbrev pub fed_ports : FlatCircuit → Request → List Port
fed_ports circuit request = ports_without (all_driven request.bridges) (in_ports circuit)

-- the output ports of the top that no bridge sees: their values are shown
abbrev pub shown_ports : Ordered → Request → List Port
shown_ports design request = ports_without (all_seen request.bridges) (output_ports design.circuit design.tree)

-- ---- traces

-- the trace gives these columns, for n cycles, to the inputs of the circuit that no bridge drives
abbrev pub Feeds : FlatCircuit → Request → List ℕ → ℕ → List (List ℕ) → Type 0
Feeds circuit request trace n columns = Columns (fed_ports circuit request) trace n columns

-- The trace gives these columns, for n cycles, and no others.
pub record FeedsOnly (circuit : FlatCircuit) (request : Request) (trace : List ℕ) (n : ℕ) (columns : List (List ℕ)) : Type 0 where
  pub feeds : Feeds circuit request trace n columns
  pub only : (m : ℕ) (others : List (List ℕ)) → Feeds circuit request trace m others → (n ≡ m) × (columns ≡ others)

-- the trace is a trace of the circuit's inputs that no bridge drives
abbrev pub IsTraceOf : FlatCircuit → Request → List ℕ → Type 0
IsTraceOf circuit request trace = (n : ℕ) × (columns : List (List ℕ)) × Feeds circuit request trace n columns

-- ---- runs

-- the top's outputs that no bridge sees
abbrev pub outputs_shown : Ordered → Request → List ℕ
outputs_shown design request = filter (λ s. not (is_among (all_seen request.bridges) (path_at design.circuit.paths s))) (outputs_of design.tree)

-- the signals of the reference circuit that have the values of these outputs: an output itself, or the register of its pipe
abbrev pub outputs_kept : Ordered → Request → List ℕ
outputs_kept design request = map (taken_as (plan_hub design.circuit design.tree request)) (outputs_shown design request)

-- the signals that have the conditions of the stops
abbrev pub stops_kept : Ordered → Request → List ℕ
stops_kept design request = map (taken_as (plan_hub design.circuit design.tree request)) (stop_signals design.tree)

-- The run of the reference circuit of a request with the models of its bridges, starting at cycle 0 with zeros. `columns` are the columns of the
-- inputs that no bridge drives. Each clock has an edge in the ticks of the ratio that the request gives it, and in each tick if the request gives
-- none.
abbrev pub IsRunBy : Ordered → Request → Models → (columns : List (List ℕ)) → (n : ℕ) → (rows : List (List ℕ)) → Type 0
IsRunBy design request models columns n rows =
    IsRunFrom (plan_circuit design request models) (clocked_start (plan_circuit design request models) (ratios_of design.tree request)) columns n rows

-- How many of the n cycles of such a run have a row: up to the first cycle where a stop acts, or all if none does. A stop acts in a cycle if its
-- condition is 1 and its clock has an edge.
abbrev pub run_rows : Ordered → Request → (rows : List (List ℕ)) → (n : ℕ) → ℕ
run_rows design request rows n = row_count (halts (plan_stops design request) (columns_of (stops_kept design request) rows)) n

-- a header, and these rows, with the columns of the top's outputs that no bridge sees
abbrev pub run_text : Ordered → Request → (rows : List (List ℕ)) → (n : ℕ) → List ℕ
run_text design request rows n = trace_text (shown_ports design request) (columns_of (outputs_kept design request) rows) (run_rows design request rows n)

-- The text of the run of a design with the pipes, the clocks and the bridges of a request. The trace gives the columns of the circuit's inputs that
-- no bridge drives for some cycles, and `rows` is the run on them of the reference circuit with the bridges' models. The reference circuit has the
-- same inputs as the circuit, and it is the circuit itself if the request has no pipe (gg_cut_reference's law `nothing_piped`). A stop ends the text,
-- but not the run in this definition: its condition is printed nowhere.
pub record IsRunText (design : Ordered) (request : Request) (models : Models) (trace text : List ℕ) : Type 0 where
  pub cycles : ℕ
  pub columns : List (List ℕ)
  pub rows : List (List ℕ)
  pub feeds : Feeds design.circuit request trace cycles columns
  pub run : IsRunBy design request models columns cycles rows
  pub is : text ≡ run_text design request rows cycles
