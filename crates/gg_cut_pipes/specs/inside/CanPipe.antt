-- What the reference circuit is made of.
-- Source: this program's profile.
use Rattle.std.specs.Prelude.{◌≡◌, ℕ, ◌<◌, ◌+◌, ◌++◌, ◌^◌, List, None, length}
use Rattle.std.specs.List.{range_with_len}
use Rattle.gg_part.specs.KeepsToTree.{KeepsToTree}
use Rattle.gg_order.specs.Design.{Ordered}
use Rattle.gg_partfile.specs.declared.request.Request.{Request}
use Rattle.gg_cut_plan.specs.declared.plan.Plan.{Plan}
use Rattle.gg_cut_plan.specs.Bridges.{Models}
use Rattle.gg_cut_plan.specs.Fault.{first_fault}
use Rattle.gg_cut_plan.specs.Plan.{IsPlan}
use Rattle.gg_cut_plan.specs.Direct.{plan_hub}
use Rattle.gg_cut_plan.specs.Held.{AreHeldOnce}
use Rattle.gg_cut_reference.specs.Links.{pipes_of}
use Rattle.gg_cut_reference.specs.Made.{AllHeld, IsFresh}

-- The plan is a plan of a request without a fault. Each register of the design is held by exactly one signal, and no path begins with `pipe:`. The
-- design's signals and the plan's channels are together fewer than 2^32.
pub record CanPipe (design : Ordered) (plan : Plan) : Type 0 where
  pub request : Request
  pub models : Models
  pub default : ℕ
  pub keeps : KeepsToTree design.circuit design.tree
  pub held : AreHeldOnce design.circuit
  pub whole : AllHeld design.circuit
  pub fresh : IsFresh design.circuit
  pub none : first_fault design request ≡ None
  pub is : IsPlan design request models default plan
  pub few : length design.circuit.signals + length plan.channels < 2 ^ 32

-- the order of the reference circuit: the pipes of the request, followed by the order of the design
abbrev pub piped_order : Ordered → Request → List ℕ
piped_order design request = range_with_len (length design.circuit.signals) (length (pipes_of (plan_hub design.circuit design.tree request))) ++ design.order
