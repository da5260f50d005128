-- The values that the code has after the first files of a command are read.
-- Source: this program's own.
use Rattle.std.specs.Prelude.{ℕ, ◌≤◌, List}
use Rattle.gg_bits.specs.Limits.{cycle_limit}
use Rattle.gg_cut_reference.specs.whole.Whole.{plan_circuit}
use Rattle.gg_cut_plan.specs.Plan.{IsPlan}
use Rattle.gg_flat.specs.Run.{IsColumns}
use Rattle.gg_front.specs.Meaning.{MeansDesign}
use Rattle.gg_part.specs.KeepsToTree.{KeepsToTree}
use Rattle.gg_order.specs.Design.{IsDesign}
use Rattle.gg_cut_plan.specs.Held.{AreHeldOnce}
use Rattle.gg_cut_reference.specs.Made.{AllHeld}
use Rattle.gg_words.specs.Range.{IsCapacity}
use Rattle.golden_commands.specs.Handed.{AreHandedIn}
use Rattle.golden_commands.specs.Partition.{Cuts, Known}
use Rattle.golden_commands.specs.RunText.{FeedsOnly}
use Rattle.golden_commands.specs.declared.case.Case.{Case}
use Rattle.golden_commands.specs.declared.case.Fed.{Fed}

-- The case of a circuit and a partition with these bytes. Its design keeps to its tree, and exactly one signal holds each register. Its plan is the
-- plan of the request's cut, with this capacity of the channels that the request doesn't name. The program's caller has to ensure the facts about the
-- models.
pub record IsCase (known : Known) (circuit partition : List ℕ) (capacity : ℕ) (case : Case) : Type 0 where
  pub means : MeansDesign circuit case.design
  pub designed : IsDesign case.design
  pub keeps : KeepsToTree case.design.circuit case.design.tree
  pub held : AreHeldOnce case.design.circuit
  pub whole : AllHeld case.design.circuit
  pub handed : AreHandedIn known.models
  pub cuts : Cuts known case.design partition case.cut.request
  pub bounded : IsCapacity capacity
  pub planned : IsPlan case.design case.cut.request known.models capacity case.cut.plan

-- The bytes of a circuit, a partition and a trace mean this.
pub record IsFed (known : Known) (circuit partition trace : List ℕ) (capacity : ℕ) (fed : Fed) : Type 0 where
  pub case : IsCase known circuit partition capacity fed.case
  pub feeds : FeedsOnly fed.case.design.circuit fed.case.cut.request trace fed.trace.rows fed.trace.columns
  pub most : fed.trace.rows ≤ cycle_limit
  pub columns : IsColumns (plan_circuit fed.case.design fed.case.cut.request known.models) fed.trace.rows fed.trace.columns
