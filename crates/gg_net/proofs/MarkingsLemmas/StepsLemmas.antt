-- Steps one after another, in the network and in its marking.
use Rattle.std.proofs.Common.{◌≡◌, ℕ, zero, suc, ◌+◌, ◌++◌, List, [], ◌∷◌, Option, Some, None, refl, sym, ap, subst, ◌∙◌, arith}
use Rattle.std.specs.Prelude.{Ok, Err, take, slice_get}
use Rattle.std.proofs.lemmas.Option.{same_Some}
use Rattle.gg_flat.specs.Streams.{Flow}
use Rattle.gg_net.specs.declared.event.Event.{Event}
use Rattle.gg_net.specs.declared.event.StepRefusal.{StepRefusal}
use Rattle.gg_net.specs.Network.{Network, frame_of}
use Rattle.gg_net.specs.Kept.{Kept}
use Rattle.gg_net.proofs.StepLemmas.{kept-step}
use Rattle.gg_net.specs.markings.Marking.{Layout}
use Rattle.gg_net.specs.markings.Goes.{Stopped, step_refusal, after_step, go_on, replayed_from}
use Rattle.gg_net.specs.markings.Steps.{IsStep, StepRefused, Steps, StopsAt}
use Rattle.gg_net.specs.inside.Fits.{HasLayout, marking_of}
use Rattle.gg_net.proofs.MarkingsLemmas.AgreeLemmas.{marked}
use Rattle.gg_net.proofs.MarkingsLemmas.GoesLemmas.{ready-free, step-marks, step-frame}

-- ---- what steps keep

pub one-kept : (flow : Flow) (old : Network) (event : Option Event) (new : Network) → Kept flow old → IsStep old event new → Kept flow new
one-kept flow old None new kept step = absurd step
one-kept flow old (Some event) new kept step = kept-step flow old event new kept step

pub one-frame : (old : Network) (event : Option Event) (new : Network) → IsStep old event new → frame_of new ≡ frame_of old
one-frame old None new step = absurd step
one-frame old (Some event) new step = step-frame old event new step

pub steps-kept : (flow : Flow) (old : Network) (events : List (Option Event)) (new : Network) → Kept flow old → Steps old events new → Kept flow new
steps-kept flow old [] new kept steps = subst (Kept flow) (sym steps) kept
steps-kept flow old (event ∷ events) new kept steps = steps-kept flow steps.0 events new (one-kept flow old event steps.0 kept steps.1) steps.2

pub steps-frame : (old : Network) (events : List (Option Event)) (new : Network) → Steps old events new → frame_of new ≡ frame_of old
steps-frame old [] new steps = ap frame_of steps
steps-frame old (event ∷ events) new steps = steps-frame steps.0 events new steps.2 ∙ one-frame old event steps.0 steps.1

-- some steps, and one more
pub steps-more : (old : Network) (events : List (Option Event)) (next : Network) (event : Option Event) (new : Network) → Steps old events next → IsStep next event new → Steps old (events ++ event ∷ []) new
steps-more old [] next event new steps step = (new, subst (λ net. IsStep net event new) steps step, refl)
steps-more old (first ∷ events) next event new steps step = (steps.0, steps.1, steps-more steps.0 events next event new steps.2 step)

-- ---- the marking

module _ (flow : Flow) (layout : Layout) where
  one-free : (old : Network) (event : Option Event) (new : Network) → Kept flow old → HasLayout (frame_of old) layout → IsStep old event new → step_refusal layout (marking_of old) event ≡ None
  one-free old None new kept has step = absurd step
  one-free old (Some event) new kept has step = ready-free flow old kept layout has event step.ready

  one-marks : (old : Network) (event : Option Event) (new : Network) → Kept flow old → HasLayout (frame_of old) layout → IsStep old event new → after_step layout (marking_of old) event ≡ marking_of new
  one-marks old None new kept has step = absurd step
  one-marks old (Some event) new kept has step = sym (step-marks flow old kept layout has event new step)

  one-refused : (net : Network) (event : Option Event) (cause : StepRefusal) → Kept flow net → HasLayout (frame_of net) layout → StepRefused net event cause → step_refusal layout (marking_of net) event ≡ Some cause
  one-refused net None cause kept has is = ap Some (sym is)
  one-refused net (Some event) cause kept has is = sym (marked flow net kept layout has event) ∙ is

  -- if a step is done, the replay goes on with the steps that follow
  pub goes-on : (k : ℕ) (old : Network) (event : Option Event) (new : Network) (events : List (Option Event)) → Kept flow old → HasLayout (frame_of old) layout → IsStep old event new
      → replayed_from layout k (marking_of old) (event ∷ events) ≡ replayed_from layout (suc k) (marking_of new) events
  goes-on k old event new events kept has step =
      ap (λ o. go_on k o (replayed_from layout (suc k) (after_step layout (marking_of old) event) events)) (one-free old event new kept has step)
      ∙ ap (λ marking. replayed_from layout (suc k) marking events) (one-marks old event new kept has step)

  -- if all steps are done, the replay ends at the marking of the last network
  pub all-done : (k : ℕ) (old : Network) (events : List (Option Event)) (new : Network) → Kept flow old → HasLayout (frame_of old) layout → Steps old events new → replayed_from layout k (marking_of old) events ≡ Ok (marking_of new)
  all-done k old [] new kept has steps = ap (λ net. Ok (marking_of net)) (sym steps)
  all-done k old (event ∷ events) new kept has steps =
      goes-on k old event steps.0 events kept has steps.1
      ∙ all-done (suc k) steps.0 events new (one-kept flow old event steps.0 kept steps.1) (subst (λ frame. HasLayout frame layout) (sym (one-frame old event steps.0 steps.1)) has) steps.2

  -- if a step is refused after n were done, the replay stops there for the same cause
  stops : (n k : ℕ) (old : Network) (events : List (Option Event)) (new : Network) (event : Option Event) (stopped : Stopped) → Kept flow old → HasLayout (frame_of old) layout → Steps old (take n events) new → slice_get events n ≡ Some event
      → stopped.step ≡ k + n → StepRefused new event stopped.cause → replayed_from layout k (marking_of old) events ≡ Err stopped
  stops zero k old [] new event stopped kept has steps next number refused = let is : ◌≡◌ {A = Option (Option Event)} None (Some event) = next in cc
  stops zero k old (first ∷ events) new event stopped kept has steps next number refused =
      let so : StepRefused old first stopped.cause = subst (λ net. StepRefused net first stopped.cause) steps (subst (λ e. StepRefused new e stopped.cause) (sym (same_Some first event next)) refused) in
      ap (λ o. go_on k o (replayed_from layout (suc k) (after_step layout (marking_of old) first) events)) (one-refused old first stopped.cause kept has so)
      ∙ ap (λ (step : ℕ). Err (record { step = step; cause = stopped.cause })) (omega (arith, number))
  stops (suc n) k old [] new event stopped kept has steps next number refused = let is : ◌≡◌ {A = Option (Option Event)} None (Some event) = next in cc
  stops (suc n) k old (first ∷ events) new event stopped kept has steps next number refused =
      goes-on k old first steps.0 events kept has steps.1
      ∙ stops n (suc k) steps.0 events new event stopped (one-kept flow old first steps.0 kept steps.1) (subst (λ frame. HasLayout frame layout) (sym (one-frame old first steps.0 steps.1)) has) steps.2 next (omega (arith, number)) refused

  pub stops-at : (k : ℕ) (old : Network) (events : List (Option Event)) (new : Network) (stopped : Stopped) → Kept flow old → HasLayout (frame_of old) layout → StopsAt k old events new stopped → replayed_from layout k (marking_of old) events ≡ Err stopped
  stops-at k old events new stopped kept has at = stops at.done k old events new at.event stopped kept has at.steps at.next at.number at.refused
