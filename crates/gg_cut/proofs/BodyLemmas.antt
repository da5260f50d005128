-- What machines of a plan do that have no part: sources, trays and bridges. And what is known of a unit's body.
use Rattle.std.proofs.Common.{◌≡◌, ℕ, ◌+◌, ◌-◌, ◌<◌, ◌≤◌, List, length, ap, sym, subst, ◌∙◌, arith}
use Rattle.std.proofs.lemmas.List.{length-map}
use Rattle.gg_order.specs.Design.{Ordered}
use Rattle.gg_part.specs.declared.part.Clocking.{Clocking}
use Rattle.gg_partfile.specs.declared.request.BridgeEntry.{BridgeEntry}
use Rattle.gg_partfile.specs.declared.request.Request.{Request}
use Rattle.gg_cut_plan.specs.declared.listed.Listed.{Listed}
use Rattle.gg_cut_plan.specs.declared.plan.Body.{Body}
use Rattle.gg_cut_plan.specs.declared.plan.Body.TheVariants.{Cut, Memory, Source, Tray, Bridge}
use Rattle.gg_cut_plan.specs.declared.plan.BridgeBody.{BridgeBody}
use Rattle.gg_cut_plan.specs.declared.plan.Machine.{Machine}
use Rattle.gg_cut_plan.specs.declared.wires.Wire.{Wire}
use Rattle.gg_cut_plan.specs.Bridges.{Models}
use Rattle.gg_cut_plan.specs.Direct.{Hub, plan_wires}
use Rattle.gg_cut_plan.specs.Hosts.{leader}
use Rattle.gg_cut_plan.specs.Listed.{instance_of, listed_of}
use Rattle.gg_cut_plan.specs.Machines.{first_memory, first_unit}
use Rattle.gg_cut_plan.specs.Plan.{IsBody, IsBridgeBody, channels_from, channels_to, entry_at}
use Rattle.gg_cut_plan.specs.Ports.{Bridges, first_bridge, first_kept_tray, plan_bridges}
use Rattle.gg_cut_reference.proofs.FittingLemmas.OpenLemmas.{ins-count}
use Rattle.gg_cut_parts.specs.declared.machine_draft.MachineDraft.{MachineDraft}
use Rattle.gg_cut_machines.specs.inside.Modelled.{IsModelled}
use Rattle.gg_cut_machines.proofs.LeaderLemmas.{leader-high}
use Rattle.gg_cut.specs.inside.Drafted.{IsDraftBody, IsUnitBody}
use Rattle.gg_cut.specs.inside.Made.{HasAscending, IsMadeBody, IsTimedUnit}

module _ (design : Ordered) (request : Request) (models : Models) (listed : Listed) (same : listed ≡ listed_of design.tree request) (hub : Hub) (clocking : Clocking) (machines : List Machine) (m : ℕ) where
  abbrev bridges : Bridges
  bridges = plan_bridges design.circuit design.tree request

  -- a machine behind the units is the first of its host
  alone : bridges.first ≤ m → leader request.units request.share m ≡ m
  alone high = leader-high request.units request.share m (omega (arith, high, length-map request.units (instance_of design.tree)))

  pub source-made : (place : ℕ) → bridges.first ≤ m → m < first_kept_tray bridges → place ≡ m - bridges.first → IsMadeBody design request models listed hub clocking machines m (Source place)
  source-made place high low is =
      record {
        is = (omega (arith, high, low, is, ins-count design.circuit design.tree request), omega (arith, high, is, ap (λ (l : Listed). length l.units) same, ap (λ (l : Listed). length l.memories) same));
        ascend = tt;
        timed = λ first below. tt;
        alike = λ any differ. absurd (differ (alone high));
      }

  pub tray-made : first_kept_tray bridges ≤ m → m < first_bridge bridges → IsMadeBody design request models listed hub clocking machines m Tray
  tray-made high low = record { is = (high, low); ascend = tt; timed = λ first below. tt; alike = λ any differ. absurd (differ (alone (omega (arith, high)))) }

  pub bridge-made : (bridge : BridgeBody) → first_bridge bridges ≤ m → IsBody design request models listed hub m (Bridge bridge) → IsMadeBody design request models listed hub clocking machines m (Bridge bridge)
  bridge-made bridge high is = record { is = is; ascend = tt; timed = λ first below. tt; alike = λ any differ. absurd (differ (alone (omega (arith, high)))) }

-- a bridge that is modelled after entry k and has the channels of machine m is that of the plan
pub bridge-by : (design : Ordered) (request : Request) (models : Models) (m k : ℕ) (paths : List (List ℕ)) (entry : BridgeEntry) (wires : List Wire) (taken given : List ℕ) (bridge : BridgeBody) → k < length request.bridges → paths ≡ design.circuit.paths → entry ≡ entry_at request.bridges k
    → wires ≡ plan_wires design.circuit design.tree request → taken ≡ channels_to (plan_wires design.circuit design.tree request) m → given ≡ channels_from (plan_wires design.circuit design.tree request) m → IsModelled paths models entry wires taken given bridge
    → IsBridgeBody design request models (plan_wires design.circuit design.tree request) m k bridge
bridge-by design request models m k paths entry wires taken given bridge lt held read all to from is =
    record { known = lt; name = there.name; model = there.model; ins = there.ins; outs = there.outs }
  where
    there : IsModelled design.circuit.paths models (entry_at request.bridges k) (plan_wires design.circuit design.tree request) (channels_to (plan_wires design.circuit design.tree request) m) (channels_from (plan_wires design.circuit design.tree request) m) bridge
    there =
        subst (λ (l : List ℕ). IsModelled design.circuit.paths models (entry_at request.bridges k) (plan_wires design.circuit design.tree request) (channels_to (plan_wires design.circuit design.tree request) m) l bridge) from
        (subst (λ (l : List ℕ). IsModelled design.circuit.paths models (entry_at request.bridges k) (plan_wires design.circuit design.tree request) l given bridge) to
        (subst (λ (w : List Wire). IsModelled design.circuit.paths models (entry_at request.bridges k) w taken given bridge) all
        (subst (λ (e : BridgeEntry). IsModelled design.circuit.paths models e wires taken given bridge) read
        (subst (λ (l : List (List ℕ)). IsModelled l models entry wires taken given bridge) held is))))

-- a unit's body is a part
pub unit-body : (machine : MachineDraft) (l : ℕ) → machine.draft.now.listed ≡ listed_of machine.draft.now.design.now.tree machine.draft.now.request.now → first_unit ≤ l → l < first_memory machine.draft.now.listed → (body : Body) → IsDraftBody machine.draft.now l body → HasAscending body
    → IsTimedUnit machine.draft.now.listed machine.domains.now.units l body → IsUnitBody machine l body
unit-body machine l same first low (Cut part) is ascend timed = (is.1, ascend, timed first low)
unit-body machine l same first low (Memory part) is ascend timed = absurd (let ge = is.0 in omega (arith, ge, low))
unit-body machine l same first low (Source place) is ascend timed = absurd (let at = is.1 in omega (arith, at, low))
unit-body machine l same first low Tray is ascend timed = absurd (let ge = is.0 in omega (arith, ge, low, ap (λ (k : Listed). length k.units) same))
unit-body machine l same first low (Bridge bridge) is ascend timed = absurd (let ge = is.0 in omega (arith, ge, low, ap (λ (k : Listed). length k.units) same))
