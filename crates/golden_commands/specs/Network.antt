-- The text of the network of a cut, from the values that its trays get.
-- Sources: MEMOCODE 2009 (the k-th token of each queue is the value of its signal in cycle k, in whatever order the nodes go on);
-- ICCAD 2019 (sinks at the outputs of a target). The text is this program's own.
use Rattle.std.specs.Prelude.{◌≡◌, ℕ, List, length, take, drop}
use Rattle.std.specs.Io.KnownBytes.{append_known}
use Rattle.gg_order.specs.Design.{IsDesign}
use Rattle.gg_cut_reference.specs.whole.Whole.{plan_circuit}
use Rattle.gg_cut_plan.specs.Plan.{IsPlan}
use Rattle.gg_cut_plan.specs.declared.plan.Plan.{Plan}
use Rattle.gg_rows.specs.Printed.{AreKept, plan_stops}
use Rattle.gg_trace.specs.Last.{halts, row_count}
use Rattle.gg_trace.specs.Printing.{trace_text}
use Rattle.gg_io.specs.Ends.{Loads, Puts}
use Rattle.gg_io.specs.Order.{CanBe, IsOnly}
use Rattle.golden_commands.specs.Meaning.{IsMeaning, Meaning}
use Rattle.golden_commands.specs.Partition.{Known, partition_file_for}
use Rattle.golden_commands.specs.Run.{IsTextOf, circuit_file, trace_file_for}
use Rattle.golden_commands.specs.RunText.{shown_ports}

-- The text of the network of a cut. The bytes of a circuit, a partition and a trace mean a design, a request and columns for some cycles. The network
-- is the network of the request's plan, with this capacity of the channels that the request doesn't name. The text is a header, and a row for each
-- cycle: the values of that cycle that host steps bring to the trays of the top's outputs that no bridge sees. `kept` has a column for each of these,
-- and then for each stop. The last row is the row of the first cycle where a stop acts, if one does: a 1 comes to the tray of the stop for it, and
-- the stop's clock has an edge, by the request's ratios. No other values come to the trays in these cycles, whatever steps are done. The circuit's
-- run has no part in this definition.
pub record IsNetworkText (known : Known) (circuit partition trace : List ℕ) (capacity : ℕ) (text : List ℕ) : Type 0 where
  pub meant : Meaning
  pub is_meant : IsMeaning known circuit partition trace meant
  pub designed : IsDesign meant.design
  pub plan : Plan
  pub planned : IsPlan meant.design meant.request known.models capacity plan
  pub kept : List (List ℕ)
  pub each : length kept ≡ length (plan_circuit meant.design meant.request known.models).outs
  pub told : ℕ
  pub ends : told ≡ row_count (halts (plan_stops meant.design meant.request) (drop (length (shown_ports meant.design meant.request)) kept)) meant.cycles
  pub trays : AreKept meant.design meant.request plan meant.columns meant.cycles told kept
  pub is : text ≡ trace_text (shown_ports meant.design meant.request) (take (length (shown_ports meant.design meant.request)) kept) told

-- The files of a circuit, a partition and a trace can have some bytes, and a text of the run of these bytes was written. It is also the text of the
-- network of their cut, and the only one.
pub record RanNetwork (known : Known) (loads : Loads) (out : Puts) (circuit partition trace : List ℕ) (capacity : ℕ) : Type 0 where
  pub circuit_bytes : List ℕ
  pub partition_bytes : List ℕ
  pub trace_bytes : List ℕ
  pub at_circuit : CanBe loads.files (circuit_file circuit) circuit_bytes
  pub at_partition : CanBe loads.files (partition_file_for known circuit_bytes partition) partition_bytes
  pub at_trace : CanBe loads.files (trace_file_for circuit_bytes partition_bytes trace) trace_bytes
  pub text : List ℕ
  pub written : out.after ≡ append_known out.before text
  pub of_run : IsTextOf known circuit_bytes partition_bytes trace_bytes text
  pub of_network : IsOnly (IsNetworkText known circuit_bytes partition_bytes trace_bytes capacity) text
