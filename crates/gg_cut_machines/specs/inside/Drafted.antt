-- What the machines of a draft have besides their parts.
-- Source: ICCAD 2019 (bridges: models in the host's own code that stand at a target's ports).
use Rattle.std.specs.Prelude.{◌≡◌, ℕ, List, length}
use Rattle.gg_cut_plan.specs.declared.wires.Wire.{Wire}
use Rattle.gg_cut_plan.specs.Plan.{channels_from, channels_to, machine_names}
use Rattle.gg_cut_plan.specs.Ports.{Bridges, machine_end, plan_bridges}
use Rattle.gg_cut_plan.specs.Direct.{plan_wires}
use Rattle.gg_cut_split.specs.inside.Spread.{AreLists}
use Rattle.gg_cut_machines.specs.inside.Hosts.{AreHosts}
use Rattle.gg_cut_parts.specs.declared.draft.Draft.{Draft}
use Rattle.gg_cut_machines.specs.declared.places.Places.{Places}

-- the ports of a draft, and which of them its bridges have
abbrev pub draft_bridges : Draft → Bridges
draft_bridges draft = plan_bridges draft.design.now.circuit draft.design.now.tree draft.request.now

-- the channels between the machines of a draft
abbrev pub draft_wires : Draft → List Wire
draft_wires draft = plan_wires draft.design.now.circuit draft.design.now.tree draft.request.now

-- how many machines a draft has
abbrev pub draft_end : Draft → ℕ
draft_end draft = machine_end (draft_bridges draft)

-- the names and the hosts of the machines of a draft, and the channels that they take and give
pub record AreDraftPlaces (draft : Draft) (places : Places) : Type 0 where
  pub names : places.names.items ≡ machine_names draft.design.now draft.request.now draft.listed
  pub names_many : length places.names.items ≡ draft_end draft
  pub hosts : AreHosts draft.request.now (draft_end draft) places.hosts
  pub into : AreLists (channels_to (draft_wires draft)) (draft_end draft) places.sides.ins.items
  pub from : AreLists (channels_from (draft_wires draft)) (draft_end draft) places.sides.outs.items
