-- Runs that are made of others, and of tries of single events.
use Rattle.std.proofs.Common.{◌≡◌, ℕ, ◌<◌, ◌≤◌, ◌++◌, List, [], ◌∷◌, Bool, true, false, MatchBool, length, refl, ap, sym, subst, arith}
use Rattle.std.proofs.lemmas.List.{length-map}
use Rattle.gg_flat.specs.Streams.{Flow}
use Rattle.gg_net.specs.declared.event.Event.{Event}
use Rattle.gg_net.specs.Network.{Network, Frame, kind_of, frame_of}
use Rattle.gg_net.specs.Kept.{Kept}
use Rattle.gg_net.specs.Step.{Ready, Step}
use Rattle.gg_net.specs.inside.Step.{cycle_of}
use Rattle.gg_measure.specs.inside.Nets.{Goes, HasRun, StaysWithin, StepsBelow}
use Rattle.gg_net.specs.Network.{cycle_at}
use Rattle.gg_measure.proofs.GoLemmas.{goes-none, goes-one, steps-then, steps-within}
use Rattle.gg_measure.proofs.TurnLemmas.{steps-frame}

-- ---- one event

pub tried-goes : (cycle : ℕ) (event : Event) (old new : Network) (done : Bool) → MatchBool done (Step old event new × (cycle_of old event < cycle)) ((new ≡ old) × (Ready old event → cycle_of old event < cycle → ⊥)) → Goes cycle old done new
tried-goes cycle event old new true both = goes-one cycle old new event both.0 both.1
tried-goes cycle event old new false not = subst (λ x. Goes cycle old false x) (sym not.0) (goes-none cycle old)

-- ---- a lower cycle

steps-up-to : (low high : ℕ) → low ≤ high → (a : Network) (events : List Event) (b : Network) → StepsBelow low a events b → StepsBelow high a events b
steps-up-to low high le a [] b steps = steps
steps-up-to low high le a (event ∷ events) b steps = (steps.0, record { step = steps.1.step; below = omega (arith, le, steps.1.below) }, steps-up-to low high le steps.0 events b steps.2)

pub run-up-to : (low high : ℕ) (a b : Network) (moved : Bool) → low ≤ high → Goes low a moved b → HasRun high a b
run-up-to low high a b moved le goes = record { events = goes.events; steps = steps-up-to low high le a goes.events b goes.steps }

pub run-none : (cycle : ℕ) (a : Network) → HasRun cycle a a
run-none cycle a = record { events = []; steps = refl }

-- ---- one run, and then another

pub run-then : (cycle : ℕ) (a b c : Network) → HasRun cycle a b → HasRun cycle b c → HasRun cycle a c
run-then cycle a b c one two = record { events = one.events ++ two.events; steps = steps-then cycle a b c one.events two.events one.steps two.steps }

module _ (flow : Flow) (cycle : ℕ) (a b : Network) (kept : Kept flow a) (run : HasRun cycle a b) where
  pub within-run : StaysWithin cycle a b
  within-run = steps-within flow cycle a run.events b kept run.steps

  pub frame-run : frame_of b ≡ frame_of a
  frame-run = steps-frame cycle a run.events b run.steps

  pub end-run : cycle ≤ a.end → cycle ≤ b.end
  end-run within = omega (arith, within, ap (λ (frame : Frame). frame.end) frame-run)

  pub above-run : ((m : ℕ) → m < length a.machines → cycle_at a m ≤ cycle) → (m : ℕ) → m < length b.machines → cycle_at b m ≤ cycle
  above-run none m known =
      let there : m < length a.machines = omega (arith, known, length-map b.machines kind_of, ap (λ (frame : Frame). length frame.kinds) frame-run, length-map a.machines kind_of) in
      omega (arith, within-run.cycles m there, none m there)
