-- `resume` goes on where `save` stopped: statements of a run from the state before a cycle, of the snapshot's file, and of the texts.
-- Source: this program's own. ICCAD 2019 (Golden Gate) for target cycles as rows.
use Rattle.std.specs.Prelude.{◌≡◌, ℕ, ◌≤◌, List, [], None}
use Rattle.gg_cut_plan.specs.Bridges.{Models}
use Rattle.gg_cut_plan.specs.Fault.{first_fault}
use Rattle.gg_cut_plan.specs.Held.{AreHeldOnce}
use Rattle.gg_cut_plan.specs.Solves.{AreRows}
use Rattle.gg_cut_reference.specs.Made.{AllHeld, plan_reference}
use Rattle.gg_order.specs.Design.{IsDesign, Ordered}
use Rattle.gg_part.specs.KeepsToTree.{KeepsToTree}
use Rattle.gg_partfile.specs.Partition.{IsPartition}
use Rattle.gg_partfile.specs.declared.request.Request.{Request}
use Rattle.golden_commands.specs.Meaning.{meaning_of}
use Rattle.golden_commands.specs.Partition.{IsPartitionFor, to_run, to_save}
use Rattle.golden_commands.specs.Resumed.{CanBeResumed, HaveSamePipes, HaveSameRatios, IsRestOf, IsResumedText, rest_text, start_at}
use Rattle.golden_commands.specs.Run.{IsTextOf}
use Rattle.golden_commands.specs.RunText.{IsRunBy, run_text}
use Rattle.golden_commands.specs.Saved.{IsSavedText, save_limit, state_before}

-- A run from the state of another run before a cycle prints the rest of the other's text. `other` is the request that the state is saved under, and
-- `one` the request of the run that goes on from it.
abbrev pub RunsGoOn : Type 0
RunsGoOn =
    (design : Ordered) (one other : Request) (models : Models) (columns : List (List ℕ)) (n at : ℕ) (rows rest : List (List ℕ))
    -- The design keeps to its tree, and one signal holds each register.
    → IsDesign design → KeepsToTree design.circuit design.tree → AreHeldOnce design.circuit → AllHeld design.circuit
    -- Neither request has a fault for it, or a bridge.
    → first_fault design one ≡ None → first_fault design other ≡ None → one.bridges ≡ [] → other.bridges ≡ []
    -- Both have the same pipes, and give each clock the same ratio.
    → HaveSamePipes one other → HaveSameRatios one other
    -- `rows` is the whole run of n cycles, which can be saved before cycle `at`.
    → IsRunBy design other models columns n rows → at ≤ save_limit (meaning_of design other n columns) rows
    -- `rest` is a run on the same columns, from the state before that cycle.
    → AreRows (plan_reference design one) (start_at (meaning_of design one n columns) at (state_before (meaning_of design other n columns) rows at)) columns n rest
    -- Its text is the rest of the text of the whole run.
    → IsRestOf at (run_text design other rows n) (rest_text (meaning_of design one n columns) at rest)

-- The text that `save` writes is accepted as a snapshot, under each partition with the same pipes.
abbrev pub SavedIsAccepted : Models → Type 0
SavedIsAccepted models =
    (circuit partition cut trace snap : List ℕ) (one other : Request) (at : ℕ)
    -- `snap` was saved before cycle `at`, under the partition `cut`.
    → IsSavedText (to_save models) circuit cut at trace snap
    -- This is a partition of the same circuit.
    → IsPartitionFor (to_save models) circuit partition
    -- Both have the same pipes.
    → IsPartition partition one → IsPartition cut other → HaveSamePipes one other
    -- The run can go on from the snapshot.
    → CanBeResumed (to_save models) circuit partition trace snap

-- `resume` writes the rest of the text that `run` writes.
abbrev pub ResumedIsTheRest : Models → Type 0
ResumedIsTheRest models =
    (circuit partition cut trace snap text whole : List ℕ) (one other : Request) (at : ℕ)
    -- `snap` was saved before cycle `at`, under the partition `cut`.
    → IsSavedText (to_save models) circuit cut at trace snap
    -- This is a partition of the same circuit.
    → IsPartitionFor (to_save models) circuit partition
    -- Both have the same pipes, and give each clock the same ratio.
    → IsPartition partition one → IsPartition cut other → HaveSamePipes one other → HaveSameRatios one other
    -- `resume` writes `text` from the snapshot, and `run` writes `whole`.
    → IsResumedText (to_save models) circuit partition trace snap text → IsTextOf (to_run models) circuit cut trace whole
    -- `text` has the header, and the rows starting at cycle `at`.
    → IsRestOf at whole text
