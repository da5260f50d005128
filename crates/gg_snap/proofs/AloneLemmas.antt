-- A plan without bridges. The circuit that its network computes is the reference circuit, and none of its machines is a bridge.
use Rattle.std.proofs.Common.{◌≡◌, ℕ, ◌<◌, ◌≤◌, List, [], length, None, ap, subst, arith}
use Rattle.gg_bits.specs.Limits.{cycle_limit}
use Rattle.gg_flat.specs.Run.{Start}
use Rattle.gg_flat.specs.State.{IsState}
use Rattle.gg_flat.specs.Streams.{Flow}
use Rattle.gg_part.specs.KeepsToTree.{KeepsToTree}
use Rattle.gg_order.specs.Design.{IsDesign, Ordered}
use Rattle.gg_partfile.specs.declared.request.BridgeEntry.{BridgeEntry}
use Rattle.gg_partfile.specs.declared.request.Request.{Request}
use Rattle.gg_cut_plan.specs.declared.plan.Plan.{Plan}
use Rattle.gg_cut_plan.specs.Bridges.{Models}
use Rattle.gg_cut_plan.specs.Clocks.{ratios_of}
use Rattle.gg_cut_plan.specs.Fault.{first_fault}
use Rattle.gg_cut_plan.specs.Held.{AreHeldOnce}
use Rattle.gg_cut_plan.specs.Plan.{IsPlan}
use Rattle.gg_cut_plan.specs.Ports.{first_bridge, plan_bridges}
use Rattle.gg_cut_plan.specs.Solves.{AreRows}
use Rattle.gg_cut_reference.specs.Made.{plan_reference}
use Rattle.gg_cut_reference.specs.whole.Whole.{states_with, with_bridges}
use Rattle.gg_build.specs.plan.Built.{IsGiven}
use Rattle.gg_build.proofs.PlanLemmas.GivenLemmas.{faultless}
use Rattle.gg_build.specs.Build.{IsToRunFrom}

-- What is given with a plan without bridges: the run is one of the reference circuit.
pub record IsAlone (design : Ordered) (request : Request) (models : Models) (default : ℕ) (plan : Plan) (columns : List (List ℕ)) (n : ℕ) (start : Start) (rows : List (List ℕ)) : Type 0 where
  pub design_is : IsDesign design
  pub keeps : KeepsToTree design.circuit design.tree
  pub held : AreHeldOnce design.circuit
  pub faultless : first_fault design request ≡ None
  pub planned : IsPlan design request models default plan
  pub most : n ≤ cycle_limit
  pub typed : IsState (plan_reference design request) start.state
  pub clocked : start.ratios ≡ ratios_of design.tree request
  pub run : AreRows (plan_reference design request) start columns n rows

module _ (design : Ordered) (request : Request) (models : Models) (default : ℕ) (plan : Plan) (columns : List (List ℕ)) (n : ℕ) (start : Start) (rows : List (List ℕ)) (given : IsGiven design request models default plan columns n start rows) (none : request.bridges ≡ []) where
  -- the circuit with the models of these entries, and where it begins
  abbrev RunsWith : List BridgeEntry → Type 0
  RunsWith entries =
      let begin : Start = record { cycle = start.cycle; state = states_with models start.state entries; ratios = start.ratios } in
      AreRows (with_bridges models (plan_reference design request) entries) begin columns n rows

  pub is-alone : IsAlone design request models default plan columns n start rows
  is-alone = record {
    design_is = given.can.design_is;
    keeps = given.can.keeps;
    held = given.held;
    faultless = faultless design request models given.can;
    planned = given.planned;
    most = given.most;
    typed = given.typed;
    clocked = given.clocked;
    run = subst RunsWith none given.run;
  }

  -- no machine has the number of a bridge
  pub no-bridge : (m : ℕ) → m < length plan.machines → first_bridge (plan_bridges design.circuit design.tree request) ≤ m → ⊥
  no-bridge m lt le = omega (arith, lt, le, given.planned.machine_total, ap length none)

-- what is given with a run of such a plan
pub run-alone : {plan : Plan} {start : Start} {columns : List (List ℕ)} {n : ℕ} {flow : Flow} (run : IsToRunFrom plan start columns n flow) → run.request.bridges ≡ [] → IsAlone run.design run.request run.models run.default plan columns n start run.rows
run-alone {plan = plan} {start = start} {columns = columns} {n = n} run none = is-alone run.design run.request run.models run.default plan columns n start run.rows run.given none
