-- What the program promises for each call: how it ends, why, and what has to be reported.
-- Source: this program's own.
use Rattle.std.specs.Prelude.{◌≡◌, ◌≢◌, ℕ, ◌≤◌, ◌⊎◌, Bool, Err, List, [], Some, false, length}
use Rattle.std.specs.Io.KnownBytes.{append_known}
use Rattle.gg_io.specs.Told.{Holds, Told}
use Rattle.gg_read.specs.Text.{HasReadFault}
use Rattle.gg_read.specs.declared.text.ReadFault.{ReadFault}
use Rattle.gg_flat.specs.Circuit.{FlatCircuit}
use Rattle.gg_cut_plan.specs.Bridges.{Models}
use Rattle.gg_front.specs.Meaning.{Means, MeansDesign}
use Rattle.gg_net.specs.markings.Goes.{Stopped}
use Rattle.gg_order.specs.Design.{Ordered}
use Rattle.gg_partfile.specs.Partition.{IsPartition}
use Rattle.gg_partfile.specs.declared.request.Request.{Request}
use Rattle.gg_io.specs.Said.{Said, cannot_load}
use Rattle.gg_io.specs.Order.{StopsAt, DueAt, IsDueAccepted, IsJudgement, IsOnly, OfNone, Order}
use Rattle.gg_io.specs.Ends.{Loads, NoneLost, Puts, Tells}
use Rattle.gg_trace.specs.FaultText.{fault_words}
use Rattle.gg_trace.specs.Trace.{IsFirstFault}
use Rattle.gg_trace.specs.declared.faults.TraceFault.{TraceFault}
use Rattle.gg_words.specs.Meaning.{IsCommand}
use Rattle.gg_words.specs.declared.command.Cmd.{Cmd}
use Rattle.gg_words.specs.declared.command.Cmd.TheVariants.{Replay, Resume, Run}
use Rattle.golden_commands.specs.Commands.{Asked, asked_by, known_of, order_of, trace_of}
use Rattle.gg_bits.specs.Limits.{circuit_limit, partition_limit, snap_limit, steps_limit, trace_limit}
use Rattle.golden_commands.specs.Lines.{TellsUnread, partition_fault, trace_fault}
use Rattle.golden_commands.specs.Network.{RanNetwork}
use Rattle.golden_commands.specs.Outcome.{Answered}
use Rattle.golden_commands.specs.Partition.{HasFault, IsPartitionFor, to_run, to_save}
use Rattle.golden_commands.specs.Replay.{IsSetting, Setting, replayed, stopped_said}
use Rattle.golden_commands.specs.Run.{IsPlainText, IsTextOf}
use Rattle.golden_commands.specs.RunText.{fed_ports}
use Rattle.golden_commands.specs.Resumed.{HaveSamePipes, HaveSameRatios, IsRestOf}
use Rattle.golden_commands.specs.Saved.{IsSavedText}
use Rattle.golden_commands.specs.Stepped.{ToldByNetwork}
use Rattle.golden_commands.specs.Words.{AskForCommand, TellsUnasked}

-- The bytes of a file, which it can have, are refused with this report, and each file before it is accepted. No load failed, and none was
-- cut.
abbrev pub JudgedAt : (files : List ℕ → Told) → Order → Said → Type 0
JudgedAt files order said = StopsAt files OfNone OfNone order said

-- A call with these words, where these models are handed in, each with the name of its bridge, returned this status. `loads` are its files,
-- and what happened when they were loaded; `out` and `err` are the two outputs, before and after it.
pub record Promised (models : Models) (words : List (List ℕ)) (loads : Loads) (out err : Puts) (status : ℕ) : Type 0 where
  -- The headline: status, text and line are an outcome of the words and the files. At status 0 the text is the text of the run of the reference
  -- circuit with the models of the partition's bridges, of the marking that the steps lead to, of the cut, or of the demo, and there is no other.
  pub outcome : Answered models words loads out err status
  -- A `run` of known files with status 0 wrote the text of their run, and there is no other such text.
  pub run_known : (circuit partition trace : List ℕ) (capacity workers : ℕ) (mono : Bool) (c p t : List ℕ)
      → IsCommand words (Run circuit partition trace capacity workers mono) → status ≡ 0
      → loads.files circuit ≡ Holds c → loads.files partition ≡ Holds p → loads.files trace ≡ Holds t
      → (text : List ℕ) × (out.after ≡ append_known out.before text) × IsOnly (IsTextOf (to_run models) c p t) text
  -- If the partition has no pipe, no bridge and no clocks, it is the run of the circuit's own flat circuit. Each clock then has an edge in each
  -- cycle.
  pub run_plain : (circuit partition trace : List ℕ) (capacity workers : ℕ) (mono : Bool) (c p t : List ℕ) (request : Request)
      → IsCommand words (Run circuit partition trace capacity workers mono) → status ≡ 0
      → loads.files circuit ≡ Holds c → loads.files partition ≡ Holds p → loads.files trace ≡ Holds t
      → IsPartition p request → request.pipe ≡ [] → request.clocks ≡ [] → request.bridges ≡ []
      → (text : List ℕ) × (out.after ≡ append_known out.before text) × IsPlainText c t text
  -- `run` without `--mono`: at status 0 the text is also the text of the network of the cut, for the same bytes of the files, and the network has no
  -- other. It isn't claimed of a call with `--mono`.
  pub by_network : (circuit partition trace : List ℕ) (capacity workers : ℕ) → IsCommand words (Run circuit partition trace capacity workers false) → status ≡ 0
      → RanNetwork (to_run models) loads out circuit partition trace capacity
  -- `replay`: at status 0 the text is also the text of the network that the steps lead to from the network of the cut, for the same bytes of the
  -- files, and there is no other. At status 9 the reported cause is why that network refuses the step.
  pub by_steps : (circuit partition trace steps : List ℕ) (capacity : ℕ) → IsCommand words (Replay circuit partition trace steps capacity)
      → (said : Said) × Tells err status said × ToldByNetwork (to_run models) loads.files out circuit partition trace steps capacity said
  -- `resume` after `save`, on known files: the snapshot has the text that `save` writes under a partition with the same pipes and ratios, whatever
  -- its units, its memories, its direct channels and its capacities. Then `resume` writes the header of the text that `run` writes, and its rows
  -- starting at the saved cycle.
  pub resumed : NoneLost loads → (out.failed → ⊥) → (circuit partition trace snap : List ℕ) (capacity workers : ℕ) (c p q t s whole : List ℕ) (one other : Request) (at : ℕ)
      → IsCommand words (Resume circuit partition trace snap capacity workers)
      → loads.files circuit ≡ Holds c → length c ≤ circuit_limit
      → loads.files partition ≡ Holds p → length p ≤ partition_limit → IsPartitionFor (to_save models) c p → IsPartition p one
      → loads.files trace ≡ Holds t → length t ≤ trace_limit
      → loads.files snap ≡ Holds s → length s ≤ snap_limit → IsSavedText (to_save models) c q at t s
      → IsPartition q other → HaveSamePipes one other → HaveSameRatios one other → IsTextOf (to_run models) c q t whole
      → ((status ≡ 0) × ((text : List ℕ) × (out.after ≡ append_known out.before text) × IsRestOf at whole text)) ⊎ (status ≡ 5)
  -- The cause of each status. For a file that couldn't be loaded or has a fault, and for words that aren't a command, it also gives the line.
  pub judged : IsJudgement status
      → (command : Cmd) × IsCommand words command × ((said : Said) × JudgedAt loads.files (order_of models command) said × Tells err status said)
  pub no_command : status ≡ 2 → (¬ AskForCommand words) × ((said : Said) × TellsUnasked words said × Tells err status said)
  pub not_loaded : status ≡ 3 → (name : List ℕ) × loads.lost name × Tells err status (cannot_load name)
  pub not_written : status ≡ 4 → out.failed
  pub over : status ≡ 8
      → ((name : List ℕ) × loads.cut name) × ((command : Cmd) × IsCommand words command × ((said : Said) × StopsAt loads.files OfNone loads.cut (order_of models command) said × Tells err status said))
  pub nothing_written : status ≢ 0 → status ≢ 4 → status ≢ 5 → out.after ≡ out.before
  -- Words that aren't a command are refused as such.
  pub unasked : ¬ AskForCommand words → (status ≡ 2) ⊎ (status ≡ 5)
  -- If no load fails and a report is due by the known files, then a report that is due by them is made, with the same
  -- status.
  pub due : NoneLost loads → (command : Cmd) (due : Said) → IsCommand words command → DueAt loads.files (order_of models command) due
      → ((status ≡ due.status) × ((said : Said) × DueAt loads.files (order_of models command) said × Tells err status said)) ⊎ (status ≡ 5)
  -- A known circuit's file with a fault of reading is refused with that fault, for any other files.
  pub unread : NoneLost loads → (command : Cmd) (asked : Asked) (bytes : List ℕ) (fault : ReadFault) (said : Said)
      → IsCommand words command → asked_by command ≡ Some asked → loads.files asked.circuit ≡ Holds bytes → length bytes ≤ circuit_limit
      → HasReadFault bytes fault → TellsUnread fault said → Tells err status said ⊎ (status ≡ 5)
  -- A known partition's file with a fault is refused with its first fault, if the circuit is accepted.
  pub partitioned : NoneLost loads → (command : Cmd) (asked : Asked) (c p : List ℕ) (design : Ordered) (fault : List ℕ)
      → IsCommand words command → asked_by command ≡ Some asked
      → loads.files asked.circuit ≡ Holds c → length c ≤ circuit_limit → MeansDesign c design
      → loads.files asked.partition ≡ Holds p → length p ≤ partition_limit → HasFault (known_of models command) design p fault
      → Tells err status (partition_fault fault) ⊎ (status ≡ 5)
  -- A known trace's file with a fault is refused with its first fault, if the files before it are accepted.
  pub traced : NoneLost loads → (command : Cmd) (asked : Asked) (c p t trace : List ℕ) (flat : FlatCircuit) (request : Request) (fault : TraceFault)
      → IsCommand words command → asked_by command ≡ Some asked → trace_of command ≡ Some trace
      → loads.files asked.circuit ≡ Holds c → length c ≤ circuit_limit → Means c flat
      → loads.files asked.partition ≡ Holds p → length p ≤ partition_limit → IsPartitionFor (known_of models command) c p → IsPartition p request
      → loads.files trace ≡ Holds t → length t ≤ trace_limit → IsFirstFault (fed_ports flat request) t fault
      → Tells err status (trace_fault (fault_words fault)) ⊎ (status ≡ 5)
  -- A known steps file with a step that may not be done at its position is refused with the first such step, if the
  -- files before it are accepted.
  pub stepped : NoneLost loads → (circuit partition trace steps : List ℕ) (capacity : ℕ) (c p t s : List ℕ) (setting : Setting) (stopped : Stopped)
      → IsCommand words (Replay circuit partition trace steps capacity)
      → loads.files circuit ≡ Holds c → length c ≤ circuit_limit
      → loads.files partition ≡ Holds p → length p ≤ partition_limit
      → loads.files trace ≡ Holds t → length t ≤ trace_limit → IsSetting (to_run models) c p t capacity setting
      → loads.files steps ≡ Holds s → length s ≤ steps_limit → replayed setting s ≡ Err stopped
      → Tells err status (stopped_said setting s stopped) ⊎ (status ≡ 5)
  -- If no load and no put fails, the command is done for files that are known and accepted. `outcome` then gives the
  -- text.
  pub complete : NoneLost loads → (out.failed → ⊥) → (command : Cmd) → IsCommand words command → IsDueAccepted loads.files (order_of models command)
      → (status ≡ 0) ⊎ (status ≡ 5)
