-- A plan from its machines and channels.
use Rattle.std.proofs.Common.{◌≡◌, ℕ, ◌<◌, length, subst, None, List, [], ◌∷◌, Option, get_or, sym, ◌∙◌, ap, arith}
use Rattle.gg_order.specs.Design.{Ordered}
use Rattle.gg_cut_plan.specs.declared.plan.Plan.{Plan}
use Rattle.gg_cut_plan.specs.Bridges.{Models, bridge_faults}
use Rattle.gg_cut_plan.specs.Plan.{IsPlan, wire_at, channels_to, channels_from, signals_of, givens_of, IsBody, IsCutPart, IsMachine, NeedsIn}
use Rattle.gg_cut_parts.specs.declared.draft.Draft.{Draft}
use Rattle.std.specs.Prelude.{All, AllPairs}
use Rattle.gg_flat.specs.Circuit.{FlatCircuit}
use Rattle.gg_flat.specs.WellFormed.{IsWellFormed}
use Rattle.gg_part.specs.declared.part.Part.{Part}
use Rattle.gg_part.specs.Part.{IsPart}
use Rattle.gg_partfile.specs.declared.request.Request.{Request}
use Rattle.gg_cut_plan.specs.declared.plan.Body.{Body}
use Rattle.gg_cut_plan.specs.declared.plan.Body.TheVariants.{Cut, Memory, Source, Tray, Bridge}
use Rattle.gg_cut_plan.specs.declared.plan.Machine.{Machine}
use Rattle.gg_cut_plan.specs.declared.plan.Channel.{Channel}
use Rattle.gg_cut_plan.specs.declared.listed.Listed.{Listed}
use Rattle.gg_cut_plan.specs.declared.wires.Wire.{Wire}
use Rattle.gg_cut_plan.specs.Listed.{listed_of}
use Rattle.gg_cut_plan.specs.Fault.{range_fault}
use Rattle.gg_bits.specs.Lists.{first_of}
use Rattle.gg_cut_plan.specs.Channels.{capacity_of}
use Rattle.gg_cut_plan.specs.Direct.{Hub, is_piped, plan_hub, plan_wires}
use Rattle.gg_flat_tree.specs.Tree.{InstanceTree, path_at}
use Rattle.gg_cut.proofs.FaultlessLemmas.{capacity-sound}
use Rattle.gg_cut.specs.Made.{IsCapacity}
use Rattle.gg_cut.specs.inside.Made.{IsServed, IsServedBody, IsFit, AreTold, IsWired, AreWired, AreChannels}

-- ---- machines

abbrev FormsParts : Type 0
FormsParts = (whole part : FlatCircuit) (globals held memories : List ℕ) (clocks : List (Option ℕ)) → IsWellFormed whole → IsPart whole part globals held memories clocks → IsWellFormed part

-- the machines of the plan run pieces whose needs can be computed
module _ (design : Ordered) (request : Request) (models : Models) (formed : IsWellFormed design.circuit) (law : FormsParts) (m : ℕ) where
  abbrev joined : List Wire
  joined = plan_wires design.circuit design.tree request

  abbrev hub : Hub
  hub = plan_hub design.circuit design.tree request

  abbrev all_listed : Listed
  all_listed = listed_of design.tree request

  module _ (taken given : List ℕ) (to : taken ≡ channels_to joined m) (from : given ≡ channels_from joined m) where
    served : (part : Part) → IsCutPart design all_listed hub m part → IsServed joined part taken given
    served part cut =
        record {
          formed = law design.circuit part.piece part.globals part.held part.memories part.clocks formed cut.is;
          ordered = cut.ordered;
          once = cut.is.once;
          known = cut.is.outs;
          ins = cut.ins ∙ ap (signals_of joined) (sym to);
          outs = cut.outs ∙ ap (givens_of joined) (sym from);
        }

    served-body : (body : Body) → IsBody design request models all_listed hub m body → IsServedBody joined body taken given
    served-body (Cut part) is = served part is.1
    served-body (Memory part) is = served part is.2
    served-body (Source place) is = tt
    served-body Tray is = tt
    served-body (Bridge bridge) is = tt

  -- the needs of each machine can be computed
  machine-served : (machine : Machine) → IsMachine design request models all_listed hub m machine → IsFit joined m machine
  machine-served machine is =
      record {
        ins = is.ins;
        outs = is.outs;
        body = served-body machine.ins machine.outs is.ins is.outs machine.body is.body;
      }

pub machine-fit : (design : Ordered) (request : Request) (models : Models) (listed : Listed) (m : ℕ) (machine : Machine) → listed ≡ listed_of design.tree request → IsWellFormed design.circuit → FormsParts
    → IsMachine design request models listed (plan_hub design.circuit design.tree request) m machine → IsFit (plan_wires design.circuit design.tree request) m machine
machine-fit design request models listed m machine same formed law is =
    machine-served design request models formed law m machine (subst (λ (l : Listed). IsMachine design request models l (plan_hub design.circuit design.tree request) m machine) same is)

-- ---- channels

with-some : {X : Type 0} (machines : List Machine) (m : ℕ) → m < length machines → (Machine → X) → X
with-some [] m lt f = absurd (omega arith)
with-some (machine ∷ machines) m lt f = f machine

pub channels-made : (design : Ordered) (request : Request) (whole : FlatCircuit) (capacity : List ℕ → ℕ) (wires : List Wire) (machines : List Machine) (table : List (List ℕ)) (channels : List Channel) → whole ≡ design.circuit
    → ((c : ℕ) → c < length wires → (wire_at wires c).producer < length machines) → AreTold wires machines table → AreWired whole capacity (is_piped whole request) wires table channels → AreChannels design capacity (is_piped design.circuit request) wires machines channels
channels-made design request whole capacity wires machines table channels same given told wired =
    record {
      total = wired.count;
      each = λ c any lt.
          let known : c < length wires = omega (arith, lt, wired.count) in
          let w = wire_at wires c in
          let channel = get_or channels c any in
          let is = subst (λ (circuit : FlatCircuit). IsWired circuit capacity (is_piped circuit request) w channel) same (wired.each c any lt) in
          let needs : get_or table c [] ≡ channel.needs = sym (wired.needs c any lt) in
          record {
            signal = is.signal;
            name = is.name;
            type = is.type;
            producer = is.producer;
            consumer = is.consumer;
            bound = is.bound;
            pipe = is.pipe;
            ascending = subst (λ (l : List ℕ). AllPairs (λ a b. a < b) l) needs (with-some machines w.producer (given c known) (λ some. (told.each c some known).ascending));
            needs = λ some. subst (λ (l : List ℕ). NeedsIn (get_or machines w.producer some).body (get_or machines w.producer some).ins w.given l) needs (told.each c some known).needs;
          };
    }

-- each channel's capacity is one that a channel may have
pub bounds-sound : (design : Ordered) (request : Request) (default : ℕ) (wires : List Wire) (machines : List Machine) (channels : List Channel) → IsCapacity default → range_fault request.capacity ≡ None → AreChannels design (capacity_of request.capacity default) (is_piped design.circuit request) wires machines channels → All (λ channel. IsCapacity channel.capacity) channels
bounds-sound design request default wires machines channels own none are = λ c any lt.
    let is = are.each c any lt in
    subst IsCapacity (sym is.bound) (capacity-sound request.capacity default (path_at design.circuit.paths (wire_at wires c).signal) none own)

-- ---- faults

pub bridges-at : (design : Ordered) (models : Models) (request : Request) (circuit : FlatCircuit) (tree : InstanceTree) → circuit ≡ design.circuit → tree ≡ design.tree
    → first_of (bridge_faults circuit (length tree.stops) models request.bridges) ≡ first_of (bridge_faults design.circuit (length design.tree.stops) models request.bridges)
bridges-at design models request circuit tree f t =
    ap (λ (k : FlatCircuit). first_of (bridge_faults k (length tree.stops) models request.bridges)) f ∙ ap (λ (k : InstanceTree). first_of (bridge_faults design.circuit (length k.stops) models request.bridges)) t

-- ---- drafts

-- the plan of a draft of this is a plan of it
pub plan-same : (draft : Draft) (design : Ordered) (request : Request) (models : Models) (capacity : ℕ) (plan : Plan) → draft.design.now ≡ design → draft.request.now ≡ request → draft.models.now ≡ models → draft.default_capacity ≡ capacity
    → IsPlan draft.design.now draft.request.now draft.models.now draft.default_capacity plan → IsPlan design request models capacity plan
plan-same draft design request models capacity plan d r m k is =
    subst (λ (x : Ordered). IsPlan x request models capacity plan) d
    (subst (λ (x : Request). IsPlan draft.design.now x models capacity plan) r
    (subst (λ (x : Models). IsPlan draft.design.now draft.request.now x capacity plan) m
    (subst (λ (x : ℕ). IsPlan draft.design.now draft.request.now draft.models.now x plan) k is)))
