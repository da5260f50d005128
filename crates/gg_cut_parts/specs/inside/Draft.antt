-- A cut in the making, and one machine of it.
-- Source: MEMOCODE 2009 (a network of machines that are latency-insensitive); ICCAD 2019 (instances and memories of a
-- target as models of their own).
use Rattle.std.specs.Prelude.{◌≡◌, ℕ, ◌<◌, ◌≤◌, None, length}
use Rattle.gg_part.specs.KeepsToTree.{KeepsToTree}
use Rattle.gg_order.specs.Marks.{is_marked}
use Rattle.gg_part.specs.inside.Clocking.{IsTimed}
use Rattle.gg_part.specs.declared.part.Part.{Part}
use Rattle.gg_cut_plan.specs.Bridges.{bridge_faults}
use Rattle.gg_cut_plan.specs.Direct.{Hub, plan_hub, plan_wires, is_gone}
use Rattle.gg_cut_plan.specs.Fault.{IsSmall, first_fault}
use Rattle.gg_bits.specs.Lists.{first_of}
use Rattle.gg_cut_plan.specs.Held.{AreHeldOnce}
use Rattle.gg_cut_plan.specs.Listed.{listed_of}
use Rattle.gg_cut_plan.specs.Machines.{first_unit, first_memory, first_source}
use Rattle.gg_cut_plan.specs.Plan.{IsCutPart}
use Rattle.gg_cut_split.specs.inside.Apart.{AreApart}
use Rattle.gg_cut_split.specs.inside.Ends.{AreEndsOf}
use Rattle.gg_cut_parts.specs.inside.Domains.{AreDomains}
use Rattle.gg_cut_split.specs.inside.IsShare.{AreShares}
use Rattle.gg_cut_routes.specs.inside.Routes.{AreRoutes}
use Rattle.gg_cut_routes.specs.inside.Share.{IsPlanShare}
use Rattle.gg_cut_parts.specs.declared.draft.Draft.{Draft}
use Rattle.gg_cut_parts.specs.declared.machine_draft.MachineDraft.{MachineDraft}
use Rattle.gg_bits.specs.Limits.{capacity_limit}

-- how the channels of a draft are routed
abbrev pub draft_hub : Draft → Hub
draft_hub draft = plan_hub draft.design.now.circuit draft.design.now.tree draft.request.now

-- What holds of a draft: its circuit keeps to its tree and has each register held once; the request has no fault, and is small; what is listed is
-- what the request lists, and lies apart; its ends are the machines at the ports of the top; the machines have what the split gives them; the channels
-- are the plan's.
pub record IsDraft (draft : Draft) : Type 0 where
  pub small : IsSmall draft.request.now
  pub capacity : (0 < draft.default_capacity) × (draft.default_capacity ≤ capacity_limit)
  pub keeps : KeepsToTree draft.design.now.circuit draft.design.now.tree
  pub held : AreHeldOnce draft.design.now.circuit
  pub faultless : first_fault draft.design.now draft.request.now ≡ None
  pub bridges : first_of (bridge_faults draft.design.now.circuit (length draft.design.now.tree.stops) draft.models.now draft.request.now.bridges) ≡ None
  pub listed : draft.listed ≡ listed_of draft.design.now.tree draft.request.now
  pub apart : AreApart draft.design.now.tree draft.listed
  pub ends : AreEndsOf draft.design.now.circuit draft.design.now.tree draft.listed draft.request.now.bridges draft.ends
  pub shares : AreShares draft.design.now draft.listed draft.request.now.bridges draft.split.shares
  pub wires : draft.routed.wires ≡ plan_wires draft.design.now.circuit draft.design.now.tree draft.request.now
  pub gone : (s : ℕ) → s < length draft.design.now.circuit.signals → is_marked draft.routed.gone s ≡ is_gone (draft_hub draft) s
  pub sound : AreRoutes draft.design.now draft.listed draft.request.now.bridges (draft_hub draft)

-- What holds of a machine of a draft: it is the hub, a unit or a listed memory, it has this by the routed channels, and the clocks are the clocks
-- that machines follow.
pub record IsMachineDraft (machine : MachineDraft) : Type 0 where
  pub draft : IsDraft machine.draft.now
  pub known : machine.number < first_source machine.draft.now.listed
  pub domains : AreDomains machine.draft.now.design.now machine.draft.now.listed machine.domains.now
  pub share : IsPlanShare machine.draft.now.design.now machine.draft.now.listed (draft_hub machine.draft.now) machine.number machine.ins.now machine.outs.now machine.globals.now machine.memories.now

-- the part of machine m of a draft
abbrev pub IsDraftPart : Draft → ℕ → Part → Type 0
IsDraftPart draft m part = IsCutPart draft.design.now draft.listed (draft_hub draft) m part

-- If the machine is a unit, the registers and the memories of its part follow the Clock inputs that they follow inside of the unit.
abbrev pub IsUnitTimed : MachineDraft → Part → Type 0
IsUnitTimed machine part =
    first_unit ≤ machine.number → machine.number < first_memory machine.draft.now.listed
    → IsTimed part.piece part.held part.memories machine.domains.now.units.registers machine.domains.now.units.ports
