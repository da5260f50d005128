-- The order of each command: its files, one after another, and then its text. All that have files begin with a circuit and
-- a partition.
-- Source: this program's own.
use Rattle.std.specs.Prelude.{ℕ, List, [], Option, Some, None}
use Rattle.gg_cut_plan.specs.Bridges.{Models}
use Rattle.gg_words.specs.declared.command.Cmd.{Cmd}
use Rattle.gg_words.specs.declared.command.Cmd.TheVariants.{Run, Replay, Check, Demo, Save, Resume}
use Rattle.golden_commands.specs.Check.{IsCutTextOf}
use Rattle.golden_commands.specs.Demo.{IsDemoText}
use Rattle.gg_io.specs.Order.{Order, Load, Write}
use Rattle.golden_commands.specs.Partition.{Known, partition_file_for, to_run, to_save}
use Rattle.golden_commands.specs.Replay.{IsReplayOf, steps_file_for}
use Rattle.golden_commands.specs.Resumed.{IsResumedText, snap_file_for}
use Rattle.golden_commands.specs.Saved.{IsSavedText, saved_file_for}
use Rattle.golden_commands.specs.Run.{IsTextOf, circuit_file, trace_file_for}

-- The first two files of a command: their names, and the capacity of the channels that the partition doesn't name.
pub record Asked : Type 0 where
  pub circuit : List ℕ
  pub partition : List ℕ
  pub capacity : ℕ

-- these names and this capacity
abbrev pub asking : (circuit partition : List ℕ) (capacity : ℕ) → Asked
asking circuit partition capacity = record { circuit = circuit; partition = partition; capacity = capacity }

-- The circuit and the partition are loaded and checked, the partition for the circuit. What comes next depends on the
-- bytes of both.
abbrev pub read_order : Known → Asked → (next : (circuit partition : List ℕ) → Order) → Order
read_order known asked next = Load (circuit_file asked.circuit) (λ c. Load (partition_file_for known c asked.partition) (next c))

-- the first two files of a command, if it has files
abbrev pub asked_by : Cmd → Option Asked
asked_by (Run circuit partition trace capacity workers mono) = Some (asking circuit partition capacity)
asked_by (Replay circuit partition trace steps capacity) = Some (asking circuit partition capacity)
asked_by (Check circuit partition capacity) = Some (asking circuit partition capacity)
asked_by (Demo seed size workers) = None
asked_by (Save circuit partition trace at capacity workers) = Some (asking circuit partition capacity)
asked_by (Resume circuit partition trace snap capacity workers) = Some (asking circuit partition capacity)

-- the name of a command's trace; `check` and `demo` have none
abbrev pub trace_of : Cmd → Option (List ℕ)
trace_of (Run circuit partition trace capacity workers mono) = Some trace
trace_of (Replay circuit partition trace steps capacity) = Some trace
trace_of (Check circuit partition capacity) = None
trace_of (Demo seed size workers) = None
trace_of (Save circuit partition trace at capacity workers) = Some trace
trace_of (Resume circuit partition trace snap capacity workers) = Some trace

-- what is known for a command, if these models are handed in
abbrev pub known_of : Models → Cmd → Known
known_of models (Run circuit partition trace capacity workers mono) = to_run models
known_of models (Replay circuit partition trace steps capacity) = to_run models
known_of models (Check circuit partition capacity) = to_run models
known_of models (Demo seed size workers) = to_run models
known_of models (Save circuit partition trace at capacity workers) = to_save models
known_of models (Resume circuit partition trace snap capacity workers) = to_save models

-- What comes after a circuit and a partition with these bytes. `run` writes the text of the circuit's run on a trace, with the pipes and the bridges
-- of the partition. `replay` writes the text of the marking that the steps of a file lead to, and `check` the text of the cut. `demo` has no files
-- before its text, the summary of the demo. `save` writes the snapshot of the run before a cycle, and `resume` the text of the run that begins with a
-- snapshot.
abbrev pub order_behind : Models → Cmd → (circuit partition : List ℕ) → Order
order_behind models (Run circuit partition trace capacity workers mono) c p = Load (trace_file_for c p trace) (λ t. Write (IsTextOf (to_run models) c p t))
order_behind models (Replay circuit partition trace steps capacity) c p =
    Load (trace_file_for c p trace) (λ t. Load (steps_file_for (to_run models) c p t capacity steps) (λ s. Write (IsReplayOf (to_run models) c p t capacity s)))
order_behind models (Check circuit partition capacity) c p = Write (IsCutTextOf c p capacity)
order_behind models (Demo seed size workers) c p = Write (IsDemoText seed size)
order_behind models (Save circuit partition trace at capacity workers) c p = Load (saved_file_for (to_save models) c p at trace) (λ t. Write (IsSavedText (to_save models) c p at t))
order_behind models (Resume circuit partition trace snap capacity workers) c p =
    Load (trace_file_for c p trace) (λ t. Load (snap_file_for (to_save models) c p t snap) (λ s. Write (IsResumedText (to_save models) c p t s)))

-- The first two files of a command, and then what comes next. A command without files begins with what comes next, and its bytes don't matter.
abbrev pub order_by : Known → Option Asked → (next : (circuit partition : List ℕ) → Order) → Order
order_by known (Some asked) next = read_order known asked next
order_by known None next = next [] []

-- the order of a command, if these models are handed in
abbrev pub order_of : Models → Cmd → Order
order_of models cmd = order_by (known_of models cmd) (asked_by cmd) (order_behind models cmd)
