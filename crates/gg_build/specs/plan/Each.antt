-- What the laws are about: each plan that is given, each machine of such a plan, and each network that is built of it.
-- Source: this program's own.
use Rattle.std.specs.Prelude.{ℕ, List}
use Rattle.gg_flat.specs.Run.{Start}
use Rattle.gg_flat.specs.Streams.{Flow}
use Rattle.gg_order.specs.Design.{Ordered}
use Rattle.gg_partfile.specs.declared.request.Request.{Request}
use Rattle.gg_cut_plan.specs.declared.plan.Plan.{Plan}
use Rattle.gg_cut_plan.specs.Bridges.{Models}
use Rattle.gg_cut_reference.specs.Follows.{plan_token}
use Rattle.gg_node.specs.Machine.{Machine}
use Rattle.gg_net.specs.Network.{Frame}
use Rattle.gg_build.specs.plan.Built.{AreBuilt, IsGiven, body_start, flow_of, plan_frame}

-- ---- plans

-- a fact about each plan that is given with a start and the rows of a run from there
abbrev pub OfEachPlan : (Ordered → Request → Models → ℕ → Plan → List (List ℕ) → ℕ → Start → List (List ℕ) → Type 0) → Type 0
OfEachPlan Holds =
    (design : Ordered) (request : Request) (models : Models) (default : ℕ) (plan : Plan) (columns : List (List ℕ)) (n : ℕ)
    (start : Start) (rows : List (List ℕ)) → IsGiven design request models default plan columns n start rows
    → Holds design request models default plan columns n start rows

-- ---- networks

-- a fact about the network of each such plan, with machines and pipes that begin with the start: about its flow, its
-- machines, and its frame
abbrev pub OfEachStarted : (Flow → List Machine → Frame → Type 0) → Type 0
OfEachStarted Holds =
    OfEachPlan (λ design request models default plan columns n start rows. (machines : List Machine)
    → AreBuilt plan (body_start start) columns machines
    → Holds (flow_of design request plan start rows) machines (plan_frame (plan_token design request start.state) plan machines n))
