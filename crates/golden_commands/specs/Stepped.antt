-- The steps of a file on the network of a cut: the text of the state that they lead to, or why one may not be done.
-- Sources: MEMOCODE 2009 (a network goes on by steps, one node at a time, and the k-th token of each channel is the value of its signal in
-- cycle k). The text is this program's own.
use Rattle.std.specs.Prelude.{◌≡◌, ℕ, List}
use Rattle.std.specs.Io.KnownBytes.{append_known}
use Rattle.gg_io.specs.Told.{Told}
use Rattle.gg_replay.specs.steps_file.Steps.{steps_of}
use Rattle.gg_io.specs.Ends.{Puts}
use Rattle.gg_io.specs.Order.{CanBe, IsOnly}
use Rattle.gg_io.specs.Said.{Said}
use Rattle.golden_commands.specs.Case.{IsFed}
use Rattle.golden_commands.specs.Partition.{Known, partition_file_for}
use Rattle.golden_commands.specs.Replay.{IsReplayOf, steps_file_for}
use Rattle.golden_commands.specs.Replayed.{IsNetText, TellsStop, case_naming, fed_flow}
use Rattle.golden_commands.specs.Run.{circuit_file, trace_file_for}
use Rattle.golden_commands.specs.declared.case.Fed.{Fed}

-- ---- bytes

-- The bytes of a circuit, a partition and a trace mean what `fed` has: a design, the plan of its cut, with this capacity of the channels that the
-- request doesn't name, and columns for some cycles. The steps that the bytes of a steps file spell, done one after another on the plan's network
-- before its first cycle, lead to a network with this text. No marking and no run of a simulator has a part in this definition.
pub record IsSteppedText (known : Known) (circuit partition trace : List ℕ) (capacity : ℕ) (steps text : List ℕ) : Type 0 where
  pub fed : Fed
  pub means : IsFed known circuit partition trace capacity fed
  pub is : IsNetText fed (fed_flow known.models fed) (steps_of (case_naming fed.case) steps) text

-- One of the steps may not be done in the network that the steps before it lead to, and this is reported for it.
pub record TellsRefusedStep (known : Known) (circuit partition trace : List ℕ) (capacity : ℕ) (steps : List ℕ) (said : Said) : Type 0 where
  pub fed : Fed
  pub means : IsFed known circuit partition trace capacity fed
  pub tells : TellsStop fed (fed_flow known.models fed) (case_naming fed.case) (steps_of (case_naming fed.case) steps) said

-- ---- files

-- The steps file can have some bytes. A text was written that is the text of their steps, and the text of the network that they lead to. Each has no
-- other.
pub record WroteSteps (known : Known) (files : List ℕ → Told) (out : Puts) (circuit partition trace : List ℕ) (capacity : ℕ) (steps : List ℕ) : Type 0 where
  pub steps_bytes : List ℕ
  pub at_steps : CanBe files (steps_file_for known circuit partition trace capacity steps) steps_bytes
  pub text : List ℕ
  pub written : out.after ≡ append_known out.before text
  pub of_steps : IsOnly (IsReplayOf known circuit partition trace capacity steps_bytes) text
  pub of_network : IsOnly (IsSteppedText known circuit partition trace capacity steps_bytes) text

-- The steps file can have some bytes, and the network reports this for their steps.
pub record RefusedStep (known : Known) (files : List ℕ → Told) (circuit partition trace : List ℕ) (capacity : ℕ) (steps : List ℕ) (said : Said) : Type 0 where
  pub steps_bytes : List ℕ
  pub at_steps : CanBe files (steps_file_for known circuit partition trace capacity steps) steps_bytes
  pub of_network : TellsRefusedStep known circuit partition trace capacity steps_bytes said

-- The files of a circuit, a partition and a trace can have some bytes with this property.
pub record OfFiles (known : Known) (files : List ℕ → Told) (circuit partition trace : List ℕ) (Holds : (circuit partition trace : List ℕ) → Type 0) : Type 0 where
  pub circuit_bytes : List ℕ
  pub partition_bytes : List ℕ
  pub trace_bytes : List ℕ
  pub at_circuit : CanBe files (circuit_file circuit) circuit_bytes
  pub at_partition : CanBe files (partition_file_for known circuit_bytes partition) partition_bytes
  pub at_trace : CanBe files (trace_file_for circuit_bytes partition_bytes trace) trace_bytes
  pub holds : Holds circuit_bytes partition_bytes trace_bytes

-- The report of a call of `replay` with these files and with status 0 or 9. The network of the cut reports the same.
pub record ToldByNetwork (known : Known) (files : List ℕ → Told) (out : Puts) (circuit partition trace steps : List ℕ) (capacity : ℕ) (said : Said) : Type 0 where
  pub wrote : said.status ≡ 0 → OfFiles known files circuit partition trace (λ c p t. WroteSteps known files out c p t capacity steps)
  pub refused : said.status ≡ 9 → OfFiles known files circuit partition trace (λ c p t. RefusedStep known files c p t capacity steps said)
