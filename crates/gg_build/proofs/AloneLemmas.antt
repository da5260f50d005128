-- A request without bridges: its plan needs none, and the plan's circuit is the reference circuit.
use Rattle.std.proofs.Common.{◌≡◌, ℕ, List, [], None, length, sym, ap, subst, arith}
use Rattle.gg_flat.specs.Circuit.{FlatCircuit}
use Rattle.gg_flat.specs.Run.{IsColumns}
use Rattle.gg_flat.specs.State.{State}
use Rattle.gg_part.specs.KeepsToTree.{KeepsToTree}
use Rattle.gg_order.specs.Design.{IsDesign, Ordered}
use Rattle.gg_partfile.specs.declared.request.BridgeEntry.{BridgeEntry}
use Rattle.gg_partfile.specs.declared.request.Request.{Request}
use Rattle.gg_cut_plan.specs.declared.plan.Plan.{Plan}
use Rattle.gg_cut_plan.specs.Bridges.{Models}
use Rattle.gg_cut_plan.specs.Direct.{plan_hub}
use Rattle.gg_cut_plan.specs.Fault.{first_fault_with}
use Rattle.gg_cut_plan.specs.Held.{AreHeldOnce}
use Rattle.gg_cut_plan.specs.Listed.{listed_of}
use Rattle.gg_cut_plan.specs.Plan.{IsBody, IsPlan}
use Rattle.gg_cut_reference.specs.fitting.Fitting.{AreModels}
use Rattle.gg_cut_reference.specs.Made.{plan_reference}
use Rattle.gg_cut_reference.proofs.PlanLemmas.{plan-columns}
use Rattle.gg_cut_reference.specs.whole.Whole.{CanBridge, HasFreeFronts, plan_circuit, with_bridges}
use Rattle.gg_cut_reference.proofs.WholeLemmas.PlanLemmas.{faultless as no-fault}
use Rattle.gg_build.specs.plan.Built.{nameless}
use Rattle.gg_build.specs.inside.Build.{HasBridges, NeedsNone}

pub needs-none : (design : Ordered) (request : Request) (models : Models) (default : ℕ) (plan : Plan) → IsPlan design request models default plan → request.bridges ≡ [] → NeedsNone plan
needs-none design request models default plan planned alone = λ m body lt is.
    let at = subst (IsBody design request models (listed_of design.tree request) (plan_hub design.circuit design.tree request) m) is (planned.machine m nameless lt).body in
    let known = at.1.known in
    absurd (omega (arith, known, ap length alone))

-- so a list without bridges will do
pub none-needed : {B : Type 0} (piece : B → FlatCircuit) (state : B → State) (plan : Plan) (bridges : List (List ℕ × B)) → NeedsNone plan → bridges ≡ [] → HasBridges piece state plan bridges
none-needed {B} piece state plan bridges needs none =
    subst (λ (l : List (List ℕ × B)). HasBridges piece state plan l) (sym none)
    (record { names = λ i j d less lt. absurd (omega (arith, lt)); each = λ m body lt is. absurd (needs m body lt is) })

-- columns of the design's inputs are columns of the plan's circuit
pub columns-alone : (design : Ordered) (request : Request) (models : Models) (n : ℕ) (columns : List (List ℕ)) → CanBridge design request models → AreHeldOnce design.circuit → request.bridges ≡ [] → IsColumns design.circuit n columns → IsColumns (plan_circuit design request models) n columns
columns-alone design request models n columns can held alone fed =
    subst (λ (entries : List BridgeEntry). IsColumns (with_bridges models (plan_reference design request) entries) n columns) (sym alone)
    (plan-columns design request can.design_is can.keeps held (no-fault design request models can) n columns fed)

-- without models, a request that has no fault
pub can-alone : (design : Ordered) (request : Request) (models : Models) → IsDesign design → KeepsToTree design.circuit design.tree → HasFreeFronts design.circuit → first_fault_with design models request ≡ None → models ≡ [] → CanBridge design request models
can-alone design request models is keeps free faultless none =
    record {
      design_is = is;
      keeps = keeps;
      free = free;
      faultless = faultless;
      are = subst AreModels (sym none) (record { each = λ k d lt. absurd (omega (arith, lt)); plain = λ name has. absurd (omega (arith, has.1)) });
    }
