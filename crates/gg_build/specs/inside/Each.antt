-- More on Each: definitions that no promise of the program reaches.
-- Source: this program's own.
use Rattle.std.specs.Prelude.{◌≡◌, ◌↔◌, ℕ, ◌<◌, List, length}
use Rattle.gg_flat.specs.Run.{Start}
use Rattle.gg_order.specs.Design.{Ordered}
use Rattle.gg_partfile.specs.declared.request.Request.{Request}
use Rattle.gg_part.specs.declared.part.Part.{Part}
use Rattle.gg_cut_plan.specs.declared.plan.Body.{Body}
use Rattle.gg_cut_plan.specs.declared.plan.Body.TheVariants.{Cut, Memory, Source, Bridge}
use Rattle.gg_cut_plan.specs.declared.plan.BridgeBody.{BridgeBody}
use Rattle.gg_cut_plan.specs.declared.plan.Plan.{Plan}
use Rattle.gg_cut_plan.specs.Bridges.{Models}
use Rattle.gg_cut_reference.specs.Follows.{plan_start}
use Rattle.gg_node.specs.Machine.{Machine}
use Rattle.gg_net.specs.Network.{Frame}
use Rattle.gg_build.specs.plan.Built.{AreBuilt, body_start, machine_in, plan_frame}
use Rattle.gg_build.specs.inside.Built.{opening_of}
use Rattle.gg_build.specs.plan.Each.{OfEachPlan}

-- ---- machines

-- a fact about the part of each unit of such a plan
abbrev pub OfEachUnit : (Part → Type 0) → Type 0
OfEachUnit Holds =
    OfEachPlan (λ design request models default plan columns n start rows. (m : ℕ) (part : Part) → m < length plan.machines
    → (machine_in plan m).body ≡ Cut part → Holds part)

-- a fact about the part of each listed memory of such a plan
abbrev pub OfEachMemory : (Part → Type 0) → Type 0
OfEachMemory Holds =
    OfEachPlan (λ design request models default plan columns n start rows. (m : ℕ) (part : Part) → m < length plan.machines
    → (machine_in plan m).body ≡ Memory part → Holds part)

-- a fact about each source of such a plan: about the columns, its place among them, and the channels that it gives
abbrev pub OfEachSource : (List (List ℕ) → (place : ℕ) → (channels : List ℕ) → Type 0) → Type 0
OfEachSource Holds =
    OfEachPlan (λ design request models default plan columns n start rows. (m place : ℕ) → m < length plan.machines
    → (machine_in plan m).body ≡ Source place → Holds columns place (machine_in plan m).outs)

-- a fact about each bridge of such a plan, with the request and the models
abbrev pub OfEachBridge : (Request → Models → BridgeBody → Type 0) → Type 0
OfEachBridge Holds =
    OfEachPlan (λ design request models default plan columns n start rows. (m : ℕ) (bridge : BridgeBody) → m < length plan.machines
    → (machine_in plan m).body ≡ Bridge bridge → Holds request models bridge)

-- a fact about each two machines of such a plan that are bridges
abbrev pub OfEachTwoBridges : ((m k : ℕ) → (one other : BridgeBody) → Type 0) → Type 0
OfEachTwoBridges Holds =
    OfEachPlan (λ design request models default plan columns n start rows. (m k : ℕ) (one other : BridgeBody)
    → m < length plan.machines → k < length plan.machines → (machine_in plan m).body ≡ Bridge one
    → (machine_in plan k).body ≡ Bridge other → Holds m k one other)

-- ---- networks

-- a fact about the network of each such plan, wherever its machines begin and whatever token a pipe opens with: about
-- the plan, the tokens of the signals' pipes, and the frame
abbrev pub OfEachNetwork : (Plan → (token : ℕ → ℕ) → Frame → Type 0) → Type 0
OfEachNetwork Holds =
    OfEachPlan (λ design request models default plan columns n start rows. (token : ℕ → ℕ) (starts : Body → Start)
    (machines : List Machine) → AreBuilt plan starts columns machines → Holds plan token (plan_frame token plan machines n))

-- a fact about each such network: about the plan's design and request, the default capacity, and the frame
abbrev pub OfEachCut : (Ordered → Request → (default : ℕ) → Frame → Type 0) → Type 0
OfEachCut Holds =
    OfEachPlan (λ design request models default plan columns n start rows. (token : ℕ → ℕ) (starts : Body → Start)
    (machines : List Machine) → AreBuilt plan starts columns machines → Holds design request default (plan_frame token plan machines n))

-- ---- zeros

-- the machines of a plan that begin with the request's start are the machines that begin at cycle 0, with zeros
abbrev pub ZerosAreTheStart : Ordered → Request → Plan → Type 0
ZerosAreTheStart design request plan =
    (columns : List (List ℕ)) (machines : List Machine)
    → AreBuilt plan (body_start (plan_start design request)) columns machines ↔ AreBuilt plan (opening_of plan.ratios) columns machines
