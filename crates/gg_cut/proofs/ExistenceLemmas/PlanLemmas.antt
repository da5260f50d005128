-- A request without a fault has a plan.
use Rattle.std.proofs.Common.{◌≡◌, ℕ, ◌<◌, List, [], None, length, get_or, refl, sym, arith}
use Rattle.std.proofs.lemmas.List.{get_or-map}
use Rattle.gg_bits.specs.Shape.{shape, uint}
use Rattle.gg_flat.specs.declared.piece.Signal.{Signal}
use Rattle.gg_flat_tree.specs.Tree.{path_at}
use Rattle.gg_flat.proofs.ListLemmas.{some-item}
use Rattle.gg_part.specs.KeepsToTree.{KeepsToTree}
use Rattle.gg_order.specs.Design.{IsDesign, Ordered}
use Rattle.gg_part.proofs.FormedLemmas.{IsWellFormed-part}
use Rattle.gg_partfile.specs.declared.request.Request.{Request}
use Rattle.gg_cut_plan.specs.declared.listed.Listed.{Listed}
use Rattle.gg_cut_plan.specs.declared.plan.Channel.{Channel}
use Rattle.gg_cut_plan.specs.declared.plan.Machine.{Machine}
use Rattle.gg_cut_plan.specs.declared.plan.Plan.{Plan}
use Rattle.gg_cut_plan.specs.declared.wires.Wire.{Wire}
use Rattle.gg_cut_plan.specs.Bridges.{Models}
use Rattle.gg_cut_plan.specs.Channels.{capacity_of, wire}
use Rattle.gg_cut_plan.specs.Clocks.{ratios_of}
use Rattle.gg_cut_plan.specs.Direct.{is_piped, plan_hub, plan_wires}
use Rattle.gg_cut_plan.specs.Fault.{IsSmall, first_fault, first_fault_with}
use Rattle.gg_cut_plan.specs.Held.{AreHeldOnce}
use Rattle.gg_cut_plan.specs.Listed.{listed_of}
use Rattle.gg_cut_plan.specs.Plan.{IsPlan, wire_at}
use Rattle.gg_cut_plan.proofs.WholeFaultLemmas.{faultless-bridges, faultless-others}
use Rattle.gg_cut_routes.specs.inside.Routes.{AreRoutes}
use Rattle.gg_cut_routes.proofs.RoutedLemmas.{plan-routed}
use Rattle.gg_cut.specs.inside.Made.{AreChannels, AreMachines, IsWired}
use Rattle.gg_cut.proofs.PlanLemmas.{channels-made, machine-fit}
use Rattle.gg_cut_machines.proofs.WireLemmas.{given-below}
use Rattle.gg_cut.proofs.ExistenceLemmas.FilledLemmas.{IsFilled, Something, filled}
use Rattle.gg_cut.proofs.ExistenceLemmas.MachineLemmas.{machines-there}
use Rattle.gg_cut.proofs.ExistenceLemmas.ToldLemmas.{HasTable, table-there}

module _ (design : Ordered) (request : Request) (models : Models) (default : ℕ) (is : IsDesign design) (keeps : KeepsToTree design.circuit design.tree) (none : first_fault design request ≡ None) (machines : List Machine) (are : AreMachines design request models (listed_of design.tree request) (plan_hub design.circuit design.tree request) machines) where
  abbrev listed : Listed
  listed = listed_of design.tree request

  abbrev wires : List Wire
  wires = plan_wires design.circuit design.tree request

  abbrev capacity : List ℕ → ℕ
  capacity = capacity_of request.capacity default

  routed : AreRoutes design listed request.bridges (plan_hub design.circuit design.tree request)
  routed = plan-routed design request is keeps none

  given : (c : ℕ) → c < length wires → (wire_at wires c).producer < length machines
  given = given-below design request listed refl routed wires machines refl are.total

  needs : HasTable wires machines
  needs = table-there wires machines (λ m any lt. machine-fit design request models listed m (get_or machines m any) refl is.formed IsWellFormed-part (are.each m any lt)) given

  -- ---- channels

  abbrev ChannelFor : ℕ → Channel → Type 0
  ChannelFor c channel = IsWired design.circuit capacity (is_piped design.circuit request) (wire_at wires c) channel × (channel.needs ≡ get_or needs.table c [])

  channel-there : (c : ℕ) → c < length wires → Something ChannelFor c
  channel-there c lt =
      let w = wire_at wires c in
      let known = routed.known c (wire 0 0 0) lt in
      let some = some-item design.circuit.signals w.signal known in
      let channel : Channel =
      record {
        signal = w.signal;
        name = path_at design.circuit.paths w.signal;
        ty = (get_or design.circuit.signals w.signal some).ty;
        producer = w.producer;
        consumer = w.consumer;
        capacity = capacity (path_at design.circuit.paths w.signal);
        pipe = is_piped design.circuit request w.signal;
        needs = get_or needs.table c [];
      } in
      record {
        it = channel;
        is = (
          record { signal = refl; name = refl; type = sym (get_or-map (λ (x : Signal). shape x.ty) design.circuit.signals w.signal some (uint 0) known); producer = refl; consumer = refl; bound = refl; pipe = refl },
          refl,
        );
      }

  channels-are : (channels : IsFilled ChannelFor (length wires)) → AreChannels design capacity (is_piped design.circuit request) wires machines channels.items
  channels-are channels =
      channels-made design request design.circuit capacity wires machines needs.table channels.items refl given needs.are
      (record {
        count = channels.many;
        each = λ c any lt. (channels.each c any (let many = channels.many in omega (arith, lt, many))).0;
        needs = λ c any lt. (channels.each c any (let many = channels.many in omega (arith, lt, many))).1;
      })

  plan-by : IsFilled ChannelFor (length wires) → (plan : Plan) × IsPlan design request models default plan
  plan-by channels =
      let made = channels-are channels in
      let plan : Plan = record { machines = machines; channels = channels.items; listed = listed; ratios = ratios_of design.tree request } in (
        plan,
        record {
          listed = refl;
          ratios = refl;
          machine_total = are.total;
          few = are.few;
          channel_total = made.total;
          machine = are.each;
          channel = made.each;
          shared = are.shared;
        },
      )

  plan-of : (plan : Plan) × IsPlan design request models default plan
  plan-of = plan-by (filled ChannelFor (length wires) channel-there)

pub plan-there : (design : Ordered) (request : Request) (models : Models) (default : ℕ) → IsDesign design → KeepsToTree design.circuit design.tree → AreHeldOnce design.circuit → IsSmall request → first_fault_with design models request ≡ None → (plan : Plan) × IsPlan design request models default plan
plan-there design request models default is keeps held small faultless =
    let none = faultless-others design models request faultless in
    let fits = faultless-bridges design models request faultless in
    let there = machines-there design request models is keeps held small none fits in
    plan-of design request models default is keeps none there.machines there.are
