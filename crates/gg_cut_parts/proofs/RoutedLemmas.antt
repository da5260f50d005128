-- The part of a unit by the routed channels, and by the channels before.
use Rattle.std.proofs.Common.{◌≡◌, ◌≢◌, ℕ, ◌<◌, List, Bool, sym, ◌∙◌, subst, inl, inr, ◌⊎◌}
use Rattle.std.specs.Prelude.{Contains}
use Rattle.gg_part.specs.KeepsToTree.{KeepsToTree}
use Rattle.gg_order.specs.Design.{Ordered, IsDesign}
use Rattle.gg_part.specs.declared.part.Clocking.{Clocking}
use Rattle.gg_part.specs.declared.part.Part.{Part}
use Rattle.gg_part.specs.Building.{AreHeld}
use Rattle.gg_part.specs.inside.Clocking.{IsTimed}
use Rattle.gg_partfile.specs.declared.request.Request.{Request}
use Rattle.gg_partfile.specs.declared.request.BridgeEntry.{BridgeEntry}
use Rattle.gg_cut_plan.specs.declared.listed.Listed.{Listed}
use Rattle.gg_cut_plan.specs.Listed.{listed_of}
use Rattle.gg_cut_plan.specs.Machines.{first_source}
use Rattle.gg_cut_plan.specs.Direct.{Hub, hub_of, is_piped, plan_hub, routes}
use Rattle.gg_cut_plan.specs.Plan.{channels_from, givens_of, IsCutPart}
use Rattle.gg_cut_split.specs.inside.Apart.{AreApart}
use Rattle.gg_cut_routes.specs.inside.Share.{IsPlanShare}
use Rattle.gg_cut_split.specs.inside.Again.{HasSignal}
use Rattle.gg_cut_split.specs.inside.Closed.{HasInCut}
use Rattle.gg_cut_plan.proofs.EntryLemmas.{ins-same, outs-same, makes-same, takes-same}
use Rattle.gg_cut_routes.proofs.RouteLemmas.{IsBase}
use Rattle.gg_cut_routes.proofs.PlanLemmas.{plan-base}
use Rattle.gg_cut_routes.proofs.UnitLemmas.{ins-still, givens-still}
use Rattle.gg_cut_routes.proofs.ChoiceLemmas.{had, has-still}
use Rattle.gg_cut_parts.specs.inside.MovedPart.{IsUnitPart, IsUnitRouted, IsUnitShare}

pub unit-routed : (design : Ordered) (listed : Listed) (piped : ℕ → Bool) (entries : List BridgeEntry) (direct : Bool) (m : ℕ) → IsDesign design → KeepsToTree design.circuit design.tree → AreApart design.tree listed → m ≢ 0 → m < first_source listed → IsUnitRouted design listed (hub_of design.circuit design.tree listed piped entries direct) m
unit-routed design listed piped entries direct m is keeps apart other low =
    record {
      signals = λ s. (λ h. to s (had hub base m s h), λ has. has-still hub base m s other (from s has));
      ins = ins-still hub base m other ∙ ins-same design.circuit design.tree listed entries m low;
      givens = λ s.
          let still = givens-still hub base m other s in
          let same = outs-same design.circuit design.tree listed entries m low in
          (λ h. subst (λ (l : List ℕ). Contains l s) same (still.0 h), λ h. still.1 (subst (λ (l : List ℕ). Contains l s) (sym same) h));
    }
  where
    hub : Hub
    hub = hub_of design.circuit design.tree listed piped entries direct

    base : IsBase (hub_of design.circuit design.tree listed piped entries direct)
    base = plan-base design listed piped entries direct is keeps apart

    -- a unit has the same, whatever bridges there are
    to : (s : ℕ) → HasInCut design listed entries m s → HasSignal design listed m s
    to s (inl makes) = inl ((makes-same design.circuit design.tree listed entries m s low).0 makes)
    to s (inr takes) = inr ((takes-same design.circuit design.tree listed entries m s low).0 takes)

    from : (s : ℕ) → HasSignal design listed m s → HasInCut design listed entries m s
    from s (inl makes) = inl ((makes-same design.circuit design.tree listed entries m s low).1 makes)
    from s (inr takes) = inr ((takes-same design.circuit design.tree listed entries m s low).1 takes)

-- the same in a plan
pub plan-unit-routed : (design : Ordered) (request : Request) (listed : Listed) → listed ≡ listed_of design.tree request → IsDesign design → KeepsToTree design.circuit design.tree → AreApart design.tree listed → (m : ℕ) → m ≢ 0 → m < first_source listed → IsUnitRouted design listed (plan_hub design.circuit design.tree request) m
plan-unit-routed design request listed same is keeps apart m other low =
    subst (λ (l : Listed). IsUnitRouted design l (plan_hub design.circuit design.tree request) m) (sym same)
    (unit-routed design (listed_of design.tree request) (is_piped design.circuit request) request.bridges request.direct m is keeps (subst (AreApart design.tree) same apart) other (subst (λ (l : Listed). m < first_source l) same low))

module _ (design : Ordered) (listed : Listed) (hub : Hub) (clocking : Clocking) (m : ℕ) (part : Part) (routed : IsUnitRouted design listed hub m) where
  pub to-unit : IsCutPart design listed hub m part → IsTimed part.piece part.held part.memories clocking.registers clocking.ports → IsUnitPart design listed clocking m (givens_of (routes hub) (channels_from (routes hub) m)) part
  to-unit cut timed =
      record {
        is = cut.is;
        clocks = cut.clocks;
        timed = timed;
        signals = λ s. (λ h. (routed.signals s).0 ((cut.signals s).0 h), λ has. (cut.signals s).1 ((routed.signals s).1 has));
        ins = cut.ins ∙ routed.ins;
        outs = cut.outs;
        held = subst (λ (l : List ℕ). AreHeld design.circuit part.globals l part.held) routed.ins cut.held;
        memories = cut.memories;
        ordered = cut.ordered;
      }

  pub from-unit : IsUnitPart design listed clocking m (givens_of (routes hub) (channels_from (routes hub) m)) part → IsCutPart design listed hub m part
  from-unit cut =
      record {
        is = cut.is;
        clocks = cut.clocks;
        signals = λ s. (λ h. (routed.signals s).1 ((cut.signals s).0 h), λ has. (cut.signals s).1 ((routed.signals s).0 has));
        ins = cut.ins ∙ sym routed.ins;
        outs = cut.outs;
        held = subst (λ (l : List ℕ). AreHeld design.circuit part.globals l part.held) (sym routed.ins) cut.held;
        memories = cut.memories;
        ordered = cut.ordered;
      }

pub unit-share : (design : Ordered) (listed : Listed) (hub : Hub) (n : ℕ) (ins outs globals banks : List ℕ) → IsUnitRouted design listed hub n → n < first_source listed → IsPlanShare design listed hub n ins outs globals banks → IsUnitShare design listed n globals banks
unit-share design listed hub n ins outs globals banks routed low share =
    record {
      signals = λ s. (λ h. (routed.signals s).0 ((share.signals s).0 h), λ has. (share.signals s).1 ((routed.signals s).1 has));
      within = (share.choice low).within;
      banks = share.banks;
      ascend = share.ascend;
    }
