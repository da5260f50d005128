-- Drafts and what is known of them.
use Rattle.std.proofs.Common.{◌≡◌, ℕ, ◌<◌, length, ◌∙◌, ap, ◌≢◌}
use Rattle.std.proofs.lemmas.List.{length-map}
use Rattle.gg_order.specs.Design.{Ordered, IsDesign}
use Rattle.gg_cut_plan.specs.declared.listed.Listed.{Listed}
use Rattle.gg_cut_plan.specs.Listed.{listed_of, instance_of}
use Rattle.gg_cut_plan.specs.Machines.{first_source}
use Rattle.gg_partfile.specs.declared.request.Request.{Request}
use Rattle.gg_cut_parts.specs.declared.draft.Draft.{Draft}
use Rattle.gg_cut_parts.specs.declared.machine_draft.MachineDraft.{MachineDraft}
use Rattle.gg_cut_parts.specs.inside.Draft.{IsDraft, IsMachineDraft, draft_hub}
use Rattle.gg_cut_parts.specs.inside.MovedPart.{IsUnitRouted, IsUnitShare}
use Rattle.gg_cut_parts.proofs.RoutedLemmas.{plan-unit-routed, unit-share}

pub units-count : (design : Ordered) (request : Request) (listed : Listed) → listed ≡ listed_of design.tree request → length listed.units ≡ length request.units
units-count design request listed is = ap (λ (l : Listed). length l.units) is ∙ length-map request.units (instance_of design.tree)

module _ (draft : Draft) (is : IsDraft draft) where
  pub draft-units : length draft.listed.units ≡ length draft.request.now.units
  draft-units = units-count draft.design.now draft.request.now draft.listed is.listed

  -- a unit takes by the routed channels what it took before, and gives by the same signals
  pub draft-routed : IsDesign draft.design.now → (m : ℕ) → m ≢ 0 → m < first_source draft.listed → IsUnitRouted draft.design.now draft.listed (draft_hub draft) m
  draft-routed design m other low = plan-unit-routed draft.design.now draft.request.now draft.listed is.listed design is.keeps is.apart m other low

-- what a unit of a draft has
pub draft-share : (machine : MachineDraft) → IsMachineDraft machine → IsUnitRouted machine.draft.now.design.now machine.draft.now.listed (draft_hub machine.draft.now) machine.number → machine.number < first_source machine.draft.now.listed
    → IsUnitShare machine.draft.now.design.now machine.draft.now.listed machine.number machine.globals.now machine.memories.now
draft-share machine is routed low =
    let draft = machine.draft.now in
    unit-share draft.design.now draft.listed (draft_hub draft) machine.number machine.ins.now machine.outs.now machine.globals.now machine.memories.now routed low is.share
