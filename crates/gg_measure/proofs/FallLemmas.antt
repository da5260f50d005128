-- What a list of steps does to the measure, when it can be lengthened, and where it ends if it can't.
use Rattle.std.proofs.Common.{◌≡◌, ◌↔◌, ◌+◌, ◌-◌, ◌*◌, ◌<◌, List, [], ◌∷◌, Option, Some, None, length, refl, ap, ◌∙◌, inl, inr, arith}
use Rattle.gg_flat.specs.Streams.{Flow}
use Rattle.gg_net.specs.declared.event.Event.{Event}
use Rattle.gg_net.specs.Network.{Network, frame_of}
use Rattle.gg_net.specs.Kept.{Kept}
use Rattle.gg_net.specs.Step.{Ready, Step}
use Rattle.gg_net.proofs.StepLemmas.{kept-step}
use Rattle.gg_net.proofs.GoesLemmas.{goes}
use Rattle.gg_net.specs.markings.Marking.{Layout, Marking, opening_marking}
use Rattle.gg_net.specs.inside.LayoutOf.{layout_of}
use Rattle.gg_net.specs.inside.Fits.{HasLayout, marking_of}
use Rattle.gg_net.specs.markings.Steps.{Steps}
use Rattle.gg_net.proofs.MarkingsLemmas.GoesLemmas.{free-ready}
use Rattle.gg_net.proofs.MarkingsLemmas.StepsLemmas.{steps-kept}
use Rattle.gg_net.specs.inside.Counts.{counts_of, CanRun}
use Rattle.gg_net.specs.inside.Measure.{left}
use Rattle.gg_net.specs.markings.Measure.{sum_below, all_dues}
use Rattle.gg_net.proofs.MarkingsLemmas.SumLemmas.{sum-same}
use Rattle.gg_net.proofs.MarkingsLemmas.EndLemmas.{goes-or-ends, end-left, opening-left}
use Rattle.gg_measure.specs.inside.Nets.{AreDrained, HaveKept, dues_at, net_left}
use Rattle.gg_net.specs.Network.{AllStandAt}
use Rattle.gg_measure.proofs.NetLemmas.{can-run, shape-of, allowed-of, left-is, dues-are, kind-count}
use Rattle.gg_measure.proofs.GoLemmas.{laid-out, step-falls, none-ready}
use Rattle.gg_measure.proofs.DoneLemmas.{all-drained, all-kept, none-left}

module _ (flow : Flow) where
  pub steps-fall : (old new : Network) (events : List (Option Event)) → Kept flow old → Steps old events new → length events + net_left new ≡ net_left old
  steps-fall old new [] kept steps = ap (λ x. 0 + net_left x) steps ∙ (let same : 0 + net_left old ≡ net_left old = omega arith in same)
  steps-fall old new (None ∷ events) kept steps = absurd steps.1
  steps-fall old new (Some event ∷ events) kept steps =
      omega (arith, steps-fall steps.0 new events (kept-step flow old event steps.0 kept steps.1) steps.2, step-falls flow old kept steps.0 event steps.1)

  -- while the measure isn't 0, some step can be done
  left-goes : (net : Network) → Kept flow net → 0 < net_left net → (event : Event) × (next : Network) × Step net event next
  left-goes net kept some =
      let layout : Layout = layout_of (frame_of net) in
      let has : HasLayout (frame_of net) layout = laid-out flow net kept in
      let can : CanRun layout = can-run flow net kept layout has in
      elim (goes-or-ends layout can (marking_of net) (shape-of flow net kept layout has) (allowed-of flow net kept layout has)) [
        | inl found ↦ let step : (next : Network) × Step net found.0 next = goes flow net kept found.0 (free-ready flow net kept layout has found.0 found.1) in (found.0, step.0, step.1)
        | inr ends ↦ absurd (omega (arith, some, left-is flow net kept layout has, end-left layout can, ap (λ (x : Marking). left layout (counts_of layout x)) ends))
      ]

  module _ (old new : Network) (events : List (Option Event)) (kept : Kept flow old) (steps : Steps old events new) where
    new-kept : Kept flow new
    new-kept = steps-kept flow old events new kept steps

    pub goes-while-left : (length events < net_left old) ↔ ((event : Event) × (next : Network) × Step new event next)
    goes-while-left = (
      λ lt. left-goes new new-kept (omega (arith, lt, steps-fall old new events kept steps)),
      λ go. omega (arith, step-falls flow new new-kept go.1 go.0 go.2, steps-fall old new events kept steps),
    )

    module _ (none : (event : Event) → Ready new event → ⊥) where
      pub ends-there : AllStandAt new.end new
      ends-there = none-ready flow new new-kept none

      pub ends-count : length events ≡ net_left old
      ends-count = omega (arith, steps-fall old new events kept steps, (none-left flow new new-kept).1 ends-there)

      pub ends-drained : AreDrained new
      ends-drained = all-drained flow new new-kept new.end refl ends-there

      pub ends-kept : HaveKept flow new
      ends-kept = all-kept flow new new-kept new.end refl ends-there

-- the measure of a network before its first cycle
pub opening-net-left : (flow : Flow) (net : Network) (layout : Layout) → Kept flow net → HasLayout (frame_of net) layout → marking_of net ≡ opening_marking layout flow.begin
    → net_left net ≡ (net.end - flow.begin) * (2 * length net.wires + length net.machines + sum_below (dues_at net) (length net.machines))
opening-net-left flow net layout kept has opens =
    let machines : length layout.turns ≡ length net.machines = has.machines ∙ kind-count flow net kept layout has in
    let ports : all_dues layout ≡ sum_below (dues_at net) (length net.machines) =
    ap (sum_below (λ m. length (Rattle.gg_net.specs.markings.Marking.turns_at layout m))) machines
    ∙ sum-same (λ m. length (Rattle.gg_net.specs.markings.Marking.turns_at layout m)) (dues_at net) (length net.machines) (λ m lt. dues-are flow net kept layout has m (omega (arith, lt, machines))) in
    let factor : 2 * length layout.links + length layout.turns + all_dues layout ≡ 2 * length net.wires + length net.machines + sum_below (dues_at net) (length net.machines) =
    omega (arith, has.channels, machines, ports) in
    left-is flow net kept layout has
    ∙ ap (λ (x : Marking). left layout (counts_of layout x)) opens
    ∙ opening-left layout (can-run flow net kept layout has) flow.begin (omega (arith, kept.sound.solves.begins, has.end))
    ∙ ap (λ n. (layout.end - flow.begin) * n) factor
    ∙ ap (λ n. (n - flow.begin) * (2 * length net.wires + length net.machines + sum_below (dues_at net) (length net.machines))) has.end
