-- The text of a cut says what each channel needs.
-- Source: MEMOCODE 2009 (what an output of a machine depends on).
use Rattle.std.specs.Prelude.{ℕ, ◌<◌, length, slice_index_or}
use Rattle.gg_order.specs.Design.{Ordered}
use Rattle.gg_partfile.specs.declared.request.Request.{Request}
use Rattle.gg_cut_plan.specs.Bridges.{Models}
use Rattle.gg_cut_plan.specs.Listed.{listed_of}
use Rattle.gg_cut_plan.specs.Plan.{IsPlan}
use Rattle.gg_cut_plan.specs.Direct.{plan_wires}
use Rattle.gg_cut_plan.specs.declared.plan.Channel.{Channel}
use Rattle.gg_cut_plan.specs.declared.plan.Plan.{Plan}
use Rattle.gg_cut_reference.specs.text.CheckText.{AreChannelNeeds}

-- What a channel of a plan needs is exactly what it needs in the circuit.
abbrev pub NeedsAreTold : Type 0
NeedsAreTold =
    (design : Ordered) (request : Request) (models : Models) (default : ℕ) (plan : Plan)
    -- The plan is a plan of the request.
    → IsPlan design request models default plan
    -- The channel is one of the plan.
    → (c : ℕ) (any : Channel) → c < length (plan_wires design.circuit design.tree request)
    -- The channel's needs in the plan are exactly its needs in the circuit.
    → AreChannelNeeds design.circuit (listed_of design.tree request) (plan_wires design.circuit design.tree request) c (slice_index_or plan.channels c any).needs
