-- The machines and the channels of a cut in the making.
-- Source: MEMOCODE 2009 (a network of machines that are latency-insensitive); ICCAD 2019 (instances and memories of a
-- target as models of their own).
use Rattle.std.specs.Prelude.{◌≡◌, ℕ, ◌<◌, List, [], filter, slice_index_or, AllPairs}
use Rattle.gg_flat.specs.Line.{value_at}
use Rattle.gg_flat_tree.specs.Tree.{path_at}
use Rattle.gg_part.specs.inside.Clocking.{IsTimed}
use Rattle.gg_cut_plan.specs.declared.plan.Body.{Body}
use Rattle.gg_cut_plan.specs.declared.plan.Body.TheVariants.{Cut, Memory, Source, Tray, Bridge}
use Rattle.gg_cut_plan.specs.declared.plan.Channel.{Channel}
use Rattle.gg_cut_plan.specs.declared.plan.Machine.{Machine}
use Rattle.gg_cut_plan.specs.Channels.{capacity_of}
use Rattle.gg_cut_plan.specs.Direct.{is_piped}
use Rattle.gg_cut_plan.specs.Plan.{IsBody}
use Rattle.gg_cut_split.specs.declared.share.Share.{Share}
use Rattle.gg_cut_routes.specs.inside.Share.{stays_by}
use Rattle.gg_cut_parts.specs.declared.domains.Domains.{Domains}
use Rattle.gg_cut_parts.specs.declared.draft.Draft.{Draft}
use Rattle.gg_cut_parts.specs.declared.machine_draft.MachineDraft.{MachineDraft}
use Rattle.gg_cut_parts.specs.inside.Domains.{AreDomains}
use Rattle.gg_cut_parts.specs.inside.Draft.{draft_hub, IsDraft, IsDraftPart}
use Rattle.gg_cut_machines.specs.declared.places.Places.{Places}
use Rattle.gg_cut_machines.specs.inside.Drafted.{draft_wires, AreDraftPlaces}
use Rattle.gg_cut.specs.declared.making.Making.{Making}
use Rattle.gg_cut.specs.inside.Made.{IsMadeBody, AreChannels, AreMachines, AreMachinesTo}

-- what machine m of a draft does
abbrev pub IsDraftBody : Draft → ℕ → Body → Type 0
IsDraftBody draft m body = IsBody draft.design.now draft.request.now draft.models.now draft.listed (draft_hub draft) m body

-- the machines of a draft
abbrev pub AreDraftMachines : Draft → List Machine → Type 0
AreDraftMachines draft machines = AreMachines draft.design.now draft.request.now draft.models.now draft.listed (draft_hub draft) machines

-- what machine m of a draft does, if these are the machines before it
abbrev pub IsNextBody : Draft → Domains → ℕ → List Machine → Body → Type 0
IsNextBody draft domains m machines body = IsMadeBody draft.design.now draft.request.now draft.models.now draft.listed (draft_hub draft) domains.units machines m body

-- the first m machines of a draft
abbrev pub AreEarlier : Draft → Domains → ℕ → List Machine → Type 0
AreEarlier draft domains m machines = AreMachinesTo draft.design.now draft.request.now draft.models.now draft.listed (draft_hub draft) domains.units m machines

-- a body is the part of machine m of a draft, which is a unit
abbrev pub IsUnitBody : MachineDraft → ℕ → Body → Type 0
IsUnitBody machine m (Cut part) =
    IsDraftPart machine.draft.now m part × AllPairs (λ a b. a < b) part.memories
    × IsTimed part.piece part.held part.memories machine.domains.now.units.registers machine.domains.now.units.ports
IsUnitBody machine m (Memory part) = ⊥
IsUnitBody machine m (Source place) = ⊥
IsUnitBody machine m Tray = ⊥
IsUnitBody machine m (Bridge bridge) = ⊥

-- a machine has its name, its host and its channels by its number, and this body
pub record IsPlaced (places : Places) (m : ℕ) (does : Body) (machine : Machine) : Type 0 where
  pub name : machine.name ≡ path_at places.names.items m
  pub host : machine.host ≡ value_at places.hosts.numbers.items m
  pub body : machine.body ≡ does
  pub ins : machine.ins ≡ slice_index_or places.sides.ins.items m []
  pub outs : machine.outs ≡ slice_index_or places.sides.outs.items m []

-- what the machines of a draft are made from
pub record IsMaking (making : Making) : Type 0 where
  pub draft : IsDraft making.draft.now
  pub places : AreDraftPlaces making.draft.now making.places.now
  pub domains : AreDomains making.draft.now.design.now making.draft.now.listed making.domains.now
  pub hub : (any : Share) → making.hub.now ≡ filter (stays_by making.draft.now.routed.wires making.draft.now.routed.gone) (slice_index_or making.draft.now.split.shares 0 any).globals

-- the channels between these machines of a draft
abbrev pub AreDraftChannels : Draft → List Machine → List Channel → Type 0
AreDraftChannels draft machines channels =
    AreChannels draft.design.now (capacity_of draft.request.now.capacity draft.default_capacity) (is_piped draft.design.now.circuit draft.request.now) (draft_wires draft) machines channels
