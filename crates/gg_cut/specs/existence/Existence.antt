-- A request without a fault has a plan.
-- Source: MEMOCODE 2009 (each synchronous design is a network of its parts); ICCAD 2019 (units and memories as models of
-- their own).
use Rattle.std.specs.Prelude.{◌≡◌, ℕ, None}
use Rattle.gg_part.specs.KeepsToTree.{KeepsToTree}
use Rattle.gg_order.specs.Design.{Ordered, IsDesign}
use Rattle.gg_partfile.specs.declared.request.Request.{Request}
use Rattle.gg_cut_plan.specs.Bridges.{Models}
use Rattle.gg_cut_plan.specs.Fault.{IsSmall, first_fault_with}
use Rattle.gg_cut_plan.specs.Held.{AreHeldOnce}
use Rattle.gg_cut_plan.specs.Plan.{IsPlan}
use Rattle.gg_cut_plan.specs.declared.plan.Plan.{Plan}

-- Each request without a fault has a plan.
abbrev pub RequestsHavePlans : Type 0
RequestsHavePlans =
    (design : Ordered) (request : Request) (models : Models) (default : ℕ)
    -- The design keeps to its tree, and no register is held by two signals.
    → IsDesign design → KeepsToTree design.circuit design.tree → AreHeldOnce design.circuit
    -- The request is small, and neither its cut nor its bridges have a fault.
    → IsSmall request → first_fault_with design models request ≡ None
    -- Then there is a plan of it.
    → (plan : Plan) × IsPlan design request models default plan
