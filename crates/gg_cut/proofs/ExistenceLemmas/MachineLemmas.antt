-- The machines of a plan, one after another.
use Rattle.std.proofs.Common.{◌≡◌, ◌≢◌, ℕ, zero, suc, ◌+◌, ◌-◌, ◌<◌, ◌≤◌, ◌^◌, List, [], ◌∷◌, ◌++◌, None, length, map, get_or, take, refl, sym, ap, subst, inl, inr, ◌⊎◌, arith}
use Rattle.std.proofs.lemmas.Bool.{cases_lt}
use Rattle.std.proofs.lemmas.List.{get_or_default}
use Rattle.gg_bits.specs.Lists.{first_of}
use Rattle.gg_flat_tree.specs.Tree.{path_at}
use Rattle.gg_flat.proofs.ListLemmas.{some-item}
use Rattle.gg_part.specs.KeepsToTree.{KeepsToTree}
use Rattle.gg_order.specs.Design.{IsDesign, Ordered}
use Rattle.gg_part.specs.declared.part.Clocking.{Clocking}
use Rattle.gg_partfile.specs.declared.request.Request.{Request}
use Rattle.gg_cut_plan.specs.declared.listed.Listed.{Listed}
use Rattle.gg_cut_plan.specs.declared.plan.Body.{Body}
use Rattle.gg_cut_plan.specs.declared.plan.Body.TheVariants.{Cut, Memory, Source, Tray, Bridge}
use Rattle.gg_cut_plan.specs.declared.plan.BridgeBody.{BridgeBody}
use Rattle.gg_cut_plan.specs.declared.plan.Machine.{Machine}
use Rattle.gg_cut_plan.specs.declared.wires.Wire.{Wire}
use Rattle.gg_cut_plan.specs.Alike.{AreAlike}
use Rattle.gg_cut_plan.specs.Bridges.{Models, bridge_faults}
use Rattle.gg_cut_plan.specs.Direct.{Hub, is_piped, plan_hub, plan_wires}
use Rattle.gg_cut_plan.specs.Fault.{IsSmall, first_fault}
use Rattle.gg_cut_plan.specs.Held.{AreHeldOnce}
use Rattle.gg_cut_plan.specs.Hosts.{host_of, leader}
use Rattle.gg_cut_plan.specs.Listed.{listed_of}
use Rattle.gg_cut_plan.specs.Machines.{first_memory, first_source}
use Rattle.gg_cut_plan.specs.Plan.{IsBody, channels_from, channels_to, entry_at, machine_names, port_place, wire_at}
use Rattle.gg_cut_plan.specs.Ports.{Bridges, first_bridge, first_kept_tray, machine_end, plan_bridges, undriven, unseen}
use Rattle.gg_cut_split.specs.inside.Apart.{AreApart}
use Rattle.gg_cut_split.proofs.ClosedLemmas.FaultlessLemmas.{faultless-apart, faultless-few}
use Rattle.gg_cut_split.specs.inside.Again.{IsUnitAgain}
use Rattle.gg_cut_split.proofs.AgainLemmas.AgainLemmas.{unit-again}
use Rattle.gg_cut_split.proofs.AgainLemmas.PairLemmas.{paired}
use Rattle.gg_cut_parts.specs.inside.Domains.{AreUnitClocks}
use Rattle.gg_cut_routes.specs.inside.Routes.{AreRoutes}
use Rattle.gg_cut_routes.proofs.FewLemmas.{few-machines}
use Rattle.gg_cut_routes.proofs.RoutedLemmas.{plan-routed}
use Rattle.gg_cut_reference.specs.inside.Fitting.{AreFitting}
use Rattle.gg_cut_reference.proofs.FittingLemmas.FittingLemmas.{all-fit}
use Rattle.gg_cut.specs.inside.Made.{AreMachines, AreMachinesTo, HasAscending, IsMadeBody, IsTimedUnit}
use Rattle.gg_cut_parts.specs.inside.MovedPart.{IsUnitRouted}
use Rattle.gg_cut.proofs.AlikeLemmas.{machines-made, machines-more, machines-none}
use Rattle.gg_cut.proofs.BodyLemmas.{bridge-made, source-made, tray-made}
use Rattle.gg_cut_machines.proofs.HostLemmas.{leader-below}
use Rattle.gg_cut_machines.proofs.LeaderLemmas.{leaders-first}
use Rattle.gg_cut_parts.proofs.RoutedLemmas.{plan-unit-routed}
use Rattle.gg_cut.proofs.ExistenceLemmas.BodyLemmas.{HasCutPart, like-part, part-for}
use Rattle.gg_cut.proofs.ExistenceLemmas.ClockLemmas.{unit-clocks}
use Rattle.gg_cut.proofs.ExistenceLemmas.ShareLemmas.{HasShare, plan-share}

-- the machines of a plan
pub record HasMachines (design : Ordered) (request : Request) (models : Models) : Type 0 where
  pub machines : List Machine
  pub are : AreMachines design request models (listed_of design.tree request) (plan_hub design.circuit design.tree request) machines

module _ (design : Ordered) (request : Request) (models : Models) (is : IsDesign design) (keeps : KeepsToTree design.circuit design.tree) (none : first_fault design request ≡ None)
    (fit : AreFitting design.circuit (take (length design.circuit.outs - length design.tree.stops) design.circuit.outs) models request.bridges) where
  abbrev listed : Listed
  listed = listed_of design.tree request

  abbrev hub : Hub
  hub = plan_hub design.circuit design.tree request

  abbrev bridges : Bridges
  bridges = plan_bridges design.circuit design.tree request

  abbrev wires : List Wire
  wires = plan_wires design.circuit design.tree request

  apart : AreApart design.tree listed
  apart = faultless-apart design request none keeps.fitting

  routed : AreRoutes design listed request.bridges hub
  routed = plan-routed design request is keeps none

  -- a request without a fault asks for few machines
  few : IsSmall request → machine_end bridges < 2 ^ 32
  few small =
      let cut = few-machines design request routed (faultless-few design request none) in
      let asked = small.bridges in
      omega (arith, cut, asked)

  share : (m : ℕ) → HasShare design listed hub m
  share m = plan-share design listed (is_piped design.circuit request) request.bridges request.direct is keeps apart routed m

  unit-routed : (m : ℕ) → m ≢ 0 → m < first_source listed → IsUnitRouted design listed hub m
  unit-routed m some low = plan-unit-routed design request listed refl is keeps apart m some low

  -- units with one first machine have the same
  again : (m n : ℕ) → m ≢ n → leader request.units request.share m ≡ leader request.units request.share n → IsUnitAgain design listed m n
  again m n differ led =
      let p = paired design request is keeps none m n differ led in
      subst (λ a. IsUnitAgain design listed a n) (sym p.first) (subst (IsUnitAgain design listed _) (sym p.second) (unit-again design listed p.u p.v p.one p.other p.pair))

  module _ (clocking : Clocking) (are : AreUnitClocks design listed clocking) where
    abbrev To : ℕ → List Machine → Type 0
    To n machines = AreMachinesTo design request models listed hub clocking n machines

    record HasMachinesTo (n : ℕ) : Type 0 where
      machines : List Machine
      to : To n machines

    record HasMadeBody (old : List Machine) (n : ℕ) : Type 0 where
      body : Body
      made : IsMadeBody design request models listed hub clocking old n body

    -- what the hub, a unit or a memory does that is the first of its host
    own-made : (old : List Machine) (n : ℕ) → n < bridges.first → leader request.units request.share n ≡ n → HasMadeBody old n
    own-made old n low first = by (cases_lt n (first_memory listed)) (part-for design listed hub is keeps apart clocking are n (share n) low (λ other. unit-routed n other low))
      where
        by : (n < first_memory listed) ⊎ (first_memory listed ≤ n) → HasCutPart design listed hub clocking n → HasMadeBody old n
        by (inl lt) p = record { body = Cut p.part; made = record { is = (lt, p.cut); ascend = p.ascend; timed = p.timed; alike = λ any differ. absurd (differ first) } }
        by (inr ge) p = record { body = Memory p.part; made = record { is = (ge, low, p.cut); ascend = p.ascend; timed = λ first high. tt; alike = λ any differ. absurd (differ first) } }

    -- what a unit does after the first unit of its host
    module _ (old : List Machine) (n : ℕ) (to : To n old) (less : leader request.units request.share n < n) where
      abbrev l : ℕ
      l = leader request.units request.share n

      pair : IsUnitAgain design listed l n
      pair = again l n (λ same. absurd (omega (arith, less, same))) (leaders-first design request none n)

      like-by : (body : Body) → IsBody design request models listed hub l body → HasAscending body → IsTimedUnit listed clocking l body → ((any : Machine) → (get_or old l any).body ≡ body) → HasMadeBody old n
      like-by (Cut part) cut ascend timed read =
          let first : l ≢ 0 = λ z. absurd (let at = pair.units.0 in omega (arith, at, z)) in
          let second : n ≢ 0 = λ z. absurd (let at = pair.units.2 in omega (arith, at, z)) in
          let like = like-part design listed hub is keeps apart clocking are l n pair (unit-routed l first (let low = pair.units.1 in omega (arith, low))) (unit-routed n second (let low = pair.units.3 in omega (arith, low))) (share n) part cut.1 ascend (timed pair.units.0 pair.units.1) in
          record {
            body = Cut like.part;
            made = record { is = (pair.units.3, like.cut); ascend = like.ascend; timed = λ first high. like.timed; alike = λ any differ. subst (λ (b : Body). AreAlike b (Cut like.part)) (sym (read any)) like.alike };
          }
      like-by (Memory part) cut ascend timed read = absurd (let ge = cut.0 in let lt = pair.units.1 in omega (arith, ge, lt))
      like-by (Source place) cut ascend timed read = absurd (let at = cut.1 in let lt = pair.units.1 in omega (arith, at, lt))
      like-by Tray cut ascend timed read = absurd (let ge = cut.0 in let lt = pair.units.1 in omega (arith, ge, lt))
      like-by (Bridge bridge) cut ascend timed read = absurd (let ge = cut.0 in let lt = pair.units.1 in omega (arith, ge, lt))

      like-made : HasMadeBody old n
      like-made =
          let inside : l < length old = (let count = to.counted in omega (arith, less, count)) in
          let some = some-item old l inside in
          like-by (get_or old l some).body (to.each l some less).body (to.ascend l some less) (to.timed l some less) (λ any. ap (λ (x : Machine). x.body) (get_or_default old l any some inside))

    -- what a bridge does
    bridge-there : (old : List Machine) (n : ℕ) → first_bridge bridges ≤ n → n < machine_end bridges → HasMadeBody old n
    bridge-there old n ge known =
        let k = n - first_bridge bridges in
        let inside : k < length request.bridges = omega (arith, ge, known) in
        let entry = entry_at request.bridges k in
        let fits = fit.each k (record { name = []; sees = []; drives = [] }) inside in
        let bridge : BridgeBody =
        record {
          name = entry.name;
          model = fits.model;
          ins = map (λ c. port_place entry.sees (path_at design.circuit.paths (wire_at wires c).signal)) (channels_to wires n);
          outs = map (λ c. port_place entry.drives (path_at design.circuit.paths (wire_at wires c).signal)) (channels_from wires n);
        } in
        record {
          body = Bridge bridge;
          made = bridge-made design request models listed refl hub clocking old n bridge ge (ge, record { known = inside; name = refl; model = fits.named; ins = refl; outs = refl });
        }

    next-made : (old : List Machine) (n : ℕ) → To n old → n < machine_end bridges → HasMadeBody old n
    next-made old n to known = by (cases_lt n bridges.first) (cases_lt n (first_kept_tray bridges)) (cases_lt n (first_bridge bridges)) (cases_lt (leader request.units request.share n) n)
      where
        by : (n < bridges.first) ⊎ (bridges.first ≤ n) → (n < first_kept_tray bridges) ⊎ (first_kept_tray bridges ≤ n) → (n < first_bridge bridges) ⊎ (first_bridge bridges ≤ n)
            → (leader request.units request.share n < n) ⊎ (n ≤ leader request.units request.share n) → HasMadeBody old n
        by (inl low) q r (inl less) = like-made old n to less
        by (inl low) q r (inr ge) = own-made old n low (let below = leader-below request.units request.share n in omega (arith, ge, below))
        by (inr high) (inl low) r s = record { body = Source (n - bridges.first); made = source-made design request models listed refl hub clocking old n (n - bridges.first) high low refl }
        by (inr high) (inr past) (inl low) s = record { body = Tray; made = tray-made design request models listed refl hub clocking old n past low }
        by (inr high) (inr past) (inr ge) s = bridge-there old n ge known

    one-more : (n : ℕ) → HasMachinesTo n → n < machine_end bridges → HasMachinesTo (suc n)
    one-more n before known = add (next-made before.machines n before.to known)
      where
        add : HasMadeBody before.machines n → HasMachinesTo (suc n)
        add next =
            let machine : Machine =
            record {
              name = path_at (machine_names design request listed) n;
              host = host_of request.units request.share n;
              body = next.body;
              ins = channels_to wires n;
              outs = channels_from wires n;
            } in
            record {
              machines = before.machines ++ machine ∷ [];
              to = subst (λ k. To k (before.machines ++ machine ∷ [])) (let same : n + 1 ≡ suc n = omega arith in same)
                  (machines-more design request models listed hub clocking before.machines (before.machines ++ machine ∷ []) n machine next.body before.to (record { name = refl; host = refl; body = next.made.is; ins = refl; outs = refl }) refl next.made refl);
            }

    machines-to : (n : ℕ) → n ≤ machine_end bridges → HasMachinesTo n
    machines-to zero le = record { machines = []; to = machines-none design request models listed hub clocking [] refl }
    machines-to (suc n) le = one-more n (machines-to n (omega (arith, le))) (omega (arith, le))

    machines-by : IsSmall request → HasMachines design request models
    machines-by small =
        let all = machines-to (machine_end bridges) (omega arith) in
        record { machines = all.machines; are = machines-made design request models listed hub clocking none all.machines all.to (few small) }

pub machines-there : (design : Ordered) (request : Request) (models : Models) → IsDesign design → KeepsToTree design.circuit design.tree → AreHeldOnce design.circuit → IsSmall request → first_fault design request ≡ None
    → first_of (bridge_faults design.circuit (length design.tree.stops) models request.bridges) ≡ None → HasMachines design request models
machines-there design request models is keeps held small none fits =
    let fit = all-fit design.circuit (take (length design.circuit.outs - length design.tree.stops) design.circuit.outs) models request.bridges fits in
    let table = unit-clocks design (listed_of design.tree request) is keeps held (faultless-apart design request none keeps.fitting) in
    machines-by design request models is keeps none fit table.clocking table.are small
