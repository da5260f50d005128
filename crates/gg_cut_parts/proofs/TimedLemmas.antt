-- What a machine follows is what its part asks for.
use Rattle.std.proofs.Common.{◌≡◌, ◌⊎◌, inl, inr, ℕ, zero, suc, ◌<◌, ◌≤◌, List, Option, sym, ◌∙◌, ap, subst, refl, arith}
use Rattle.std.specs.Prelude.{Contains}
use Rattle.std.proofs.lemmas.Bool.{cases_lt}
use Rattle.gg_flat.specs.WellFormed.{IsWellFormed}
use Rattle.gg_part.specs.KeepsToTree.{KeepsToTree}
use Rattle.gg_order.specs.Design.{Ordered}
use Rattle.gg_part.specs.declared.part.Clocking.{Clocking}
use Rattle.gg_part.specs.inside.Clocking.{AreTimed}
use Rattle.gg_cut_plan.specs.declared.listed.Listed.{Listed}
use Rattle.gg_cut_plan.specs.Direct.{Hub, routes}
use Rattle.gg_cut_plan.specs.Machines.{first_memory, first_source, first_unit}
use Rattle.gg_cut_plan.specs.Plan.{channels_to, machine_clocks, signals_of}
use Rattle.gg_cut_plan.specs.inside.Plan.{Makes}
use Rattle.gg_cut_split.specs.inside.Apart.{AreApart}
use Rattle.gg_cut_parts.specs.declared.domains.Domains.{Domains}
use Rattle.gg_cut_parts.specs.inside.Domains.{AreDomains}
use Rattle.gg_cut_parts.proofs.DomainTimes.{machine-timed, top-clocks, whole-timed}
use Rattle.gg_cut_split.specs.inside.Again.{HasSignal, cut_wires}
use Rattle.gg_cut_routes.specs.inside.Share.{IsPlanShare}
use Rattle.gg_cut_parts.specs.inside.MovedPart.{IsUnitRouted}

module _ (design : Ordered) (listed : Listed) (hub : Hub) (keeps : KeepsToTree design.circuit design.tree) (apart : AreApart design.tree listed) (formed : IsWellFormed design.circuit) (domains : Domains) (are : AreDomains design listed domains) (ins outs globals memories : List ℕ) (clocking : Clocking) where
  -- a machine that is no unit
  top-timed : (m : ℕ) → m < first_source listed → IsPlanShare design listed hub m ins outs globals memories → (m ≡ 0) ⊎ (first_memory listed ≤ m) → clocking ≡ domains.whole → AreTimed design.circuit globals (signals_of (routes hub) ins) memories (machine_clocks design.tree listed m) clocking.registers clocking.ports
  top-timed m low share top is =
      subst (λ (c : Clocking). AreTimed design.circuit globals (signals_of (routes hub) ins) memories (machine_clocks design.tree listed m) c.registers c.ports) (sym is)
      (subst (λ (l : List (Option ℕ)). AreTimed design.circuit globals (signals_of (routes hub) ins) memories l domains.whole.registers domains.whole.ports) (sym (top-clocks design.circuit design.tree listed keeps m top))
      (whole-timed design.circuit formed domains.whole are.whole globals (signals_of (routes hub) ins) memories (share.choice low).within (share.choice low).memory_within))

  -- a unit
  unit-share-timed : (m : ℕ) → first_unit ≤ m → m < first_memory listed → m < first_source listed → IsPlanShare design listed hub m ins outs globals memories → IsUnitRouted design listed hub m → clocking ≡ domains.units → AreTimed design.circuit globals (signals_of (routes hub) ins) memories (machine_clocks design.tree listed m) clocking.registers clocking.ports
  unit-share-timed m first high low share routed is =
      subst (λ (c : Clocking). AreTimed design.circuit globals (signals_of (routes hub) ins) memories (machine_clocks design.tree listed m) c.registers c.ports) (sym is)
      (machine-timed design listed keeps apart formed domains.units are.units m first high globals (signals_of (routes hub) ins) memories (share.choice low).within makes (λ k h. (share.banks k).0 h))
    where
      taken : signals_of (routes hub) ins ≡ signals_of (cut_wires design listed) (channels_to (cut_wires design listed) m)
      taken = ap (signals_of (routes hub)) share.takes ∙ routed.ins

      by : (s : ℕ) → ¬ Contains (signals_of (routes hub) ins) s → HasSignal design listed m s → Makes design.circuit design.tree listed (cut_wires design listed) m s
      by s outside (inl made) = made
      by s outside (inr takes) = absurd (outside (subst (λ (l : List ℕ). Contains l s) (sym taken) takes))

      makes : (s : ℕ) → Contains globals s → ¬ Contains (signals_of (routes hub) ins) s → Makes design.circuit design.tree listed (cut_wires design listed) m s
      makes s chosen outside = by s outside ((routed.signals s).0 ((share.signals s).0 chosen))

  -- each machine with a part
  pub share-timed : (m : ℕ) → m < first_source listed → IsPlanShare design listed hub m ins outs globals memories → (first_unit ≤ m → m < first_memory listed → IsUnitRouted design listed hub m)
      → (m ≡ 0 → clocking ≡ domains.whole) → (first_unit ≤ m → m < first_memory listed → clocking ≡ domains.units) → (first_memory listed ≤ m → clocking ≡ domains.whole)
      → AreTimed design.circuit globals (signals_of (routes hub) ins) memories (machine_clocks design.tree listed m) clocking.registers clocking.ports
  share-timed zero low share routed at_hub at_unit at_memory = top-timed 0 low share (inl refl) (at_hub refl)
  share-timed (suc u) low share routed at_hub at_unit at_memory = by (cases_lt (suc u) (first_memory listed))
    where
      by : (suc u < first_memory listed) ⊎ (first_memory listed ≤ suc u) → AreTimed design.circuit globals (signals_of (routes hub) ins) memories (machine_clocks design.tree listed (suc u)) clocking.registers clocking.ports
      by (inl lt) = unit-share-timed (suc u) (omega arith) lt low share (routed (omega arith) lt) (at_unit (omega arith) lt)
      by (inr ge) = top-timed (suc u) low share (inr ge) (at_memory ge)
