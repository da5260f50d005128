-- From a network steps lead to each other of the same frame whose counts are nowhere lower.
use Rattle.std.proofs.Common.{◌≡◌, List, [], ◌∷◌, Some, length, map, refl, ap, sym, subst, ◌∙◌, arith}
use Rattle.gg_flat.specs.Line.{value_at}
use Rattle.gg_flat.specs.Streams.{Flow}
use Rattle.gg_net.specs.declared.event.Event.{Event}
use Rattle.gg_net.specs.Network.{Network, Frame, frame_of}
use Rattle.gg_net.specs.inside.Network.{SameCounts}
use Rattle.gg_net.specs.Kept.{Kept}
use Rattle.gg_net.specs.Step.{Step}
use Rattle.gg_net.proofs.StepLemmas.{kept-step}
use Rattle.gg_net.proofs.GoesLemmas.{goes}
use Rattle.gg_net.proofs.CountLemmas.{counted-once}
use Rattle.gg_net.specs.markings.Marking.{Layout, Marking, marked_puts, marked_takes}
use Rattle.gg_net.specs.inside.Fits.{HasLayout, marking_of}
use Rattle.gg_net.specs.markings.Steps.{Steps}
use Rattle.gg_net.proofs.MarkingsLemmas.CountLemmas.{cycle-at, served-at, puts-are, takes-are}
use Rattle.gg_net.proofs.MarkingsLemmas.GoesLemmas.{step-marks, step-frame}
use Rattle.gg_net.proofs.MarkingsLemmas.StepsLemmas.{steps-kept, steps-frame}
use Rattle.gg_net.specs.inside.Counts.{counts_of, AreAtMost}
use Rattle.gg_net.specs.inside.Leads.{Leads}
use Rattle.gg_net.proofs.MarkingsLemmas.LeadLemmas.{leads-up}
use Rattle.gg_measure.proofs.NetLemmas.{can-run, shape-of, allowed-of}
use Rattle.gg_net.proofs.MarkingsLemmas.GoesLemmas.{free-ready}

-- ---- from markings to networks

module _ (flow : Flow) (layout : Layout) (frame : Frame) (has : HasLayout frame layout) where
  -- events that lead from a network's marking to another are steps of the network
  pub leads-net : (old : Network) (events : List Event) (goal : Marking) → Kept flow old → frame_of old ≡ frame → Leads layout (marking_of old) events goal → (new : Network) × Steps old (map (λ e. Some e) events) new × (marking_of new ≡ goal)
  leads-net old [] goal kept same leads = (old, refl, sym leads)
  leads-net old (event ∷ events) goal kept same leads =
      let fits : HasLayout (frame_of old) layout = subst (λ frame. HasLayout frame layout) (sym same) has in
      let step : (new : Network) × Step old event new = goes flow old kept event (free-ready flow old kept layout fits event leads.0) in
      let rest : (new : Network) × Steps step.0 (map (λ e. Some e) events) new × (marking_of new ≡ goal) =
      leads-net step.0 events goal (kept-step flow old event step.0 kept step.1) (step-frame old event step.0 step.1 ∙ same)
      (subst (λ marking. Leads layout marking events goal) (sym (step-marks flow old kept layout fits event step.0 step.1)) leads.1) in
      (rest.0, (step.0, step.1, rest.1), rest.2)

-- networks with the same frame and the same marking have the same counts
pub same-counts : (a b : Network) (layout : Layout) → frame_of a ≡ frame_of b → HasLayout (frame_of a) layout → HasLayout (frame_of b) layout → marking_of a ≡ marking_of b → SameCounts a b
same-counts a b layout frames a_has b_has marks =
    record {
      cycles = λ m known. sym (cycle-at a m) ∙ ap (λ (k : Marking). value_at k.cycles m) marks ∙ cycle-at b m;
      served = λ m known. sym (served-at a m) ∙ ap (λ (k : Marking). value_at k.served m) marks ∙ served-at b m;
      puts = λ c known. puts-are a layout a_has c known ∙ ap (λ (k : Marking). marked_puts layout k c) marks ∙ sym (puts-are b layout b_has c (omega (arith, known, ap (λ (f : Frame). length f.wires) frames)));
      takes = λ c known. takes-are a layout a_has c known ∙ ap (λ (k : Marking). marked_takes layout k c) marks ∙ sym (takes-are b layout b_has c (omega (arith, known, ap (λ (f : Frame). length f.wires) frames)));
    }

pub steps-up : (flow : Flow) (old goal : Network) (layout : Layout) → Kept flow old → Kept flow goal → frame_of goal ≡ frame_of old → HasLayout (frame_of old) layout
    → AreAtMost layout (counts_of layout (marking_of old)) (counts_of layout (marking_of goal)) → (events : List Event) × Steps old (map (λ e. Some e) events) goal
steps-up flow old goal layout kept goal_kept same by le =
    let goal_by : HasLayout (frame_of goal) layout = subst (λ frame. HasLayout frame layout) (sym same) by in
    let way : (events : List Event) × Leads layout (marking_of old) events (marking_of goal) =
    leads-up layout (can-run flow old kept layout by) (marking_of goal) (shape-of flow goal goal_kept layout goal_by) (allowed-of flow goal goal_kept layout goal_by) (marking_of old) (shape-of flow old kept layout by) (allowed-of flow old kept layout by) le in
    let there : (new : Network) × Steps old (map (λ e. Some e) way.0) new × (marking_of new ≡ marking_of goal) =
    leads-net flow layout (frame_of old) by old way.0 (marking_of goal) kept refl way.1 in
    let new_kept : Kept flow there.0 = steps-kept flow old (map (λ e. Some e) way.0) there.0 kept there.1 in
    let frames : frame_of there.0 ≡ frame_of goal = steps-frame old (map (λ e. Some e) way.0) there.0 there.1 ∙ sym same in
    let one : there.0 ≡ goal = counted-once flow there.0 goal new_kept goal_kept frames (same-counts there.0 goal layout frames (subst (λ frame. HasLayout frame layout) (sym frames) goal_by) goal_by there.2) in
    (way.0, subst (Steps old (map (λ e. Some e) way.0)) one there.1)
