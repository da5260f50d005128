-- Steps of a network one after another, up to the first that is refused.
-- Source: MEMOCODE 2009 (a network goes on by steps, one node at a time). This program's own: a step that isn't an
-- event is refused as a stranger, and steps are numbered.
use Rattle.std.specs.Prelude.{◌≡◌, ℕ, ◌+◌, List, [], ◌∷◌, Option, Some, None, take, slice_get}
use Rattle.gg_net.specs.declared.event.Event.{Event}
use Rattle.gg_net.specs.declared.event.StepRefusal.{StepRefusal}
use Rattle.gg_net.specs.declared.event.StepRefusal.TheVariants.{Stranger}
use Rattle.gg_net.specs.Network.{Network}
use Rattle.gg_net.specs.Step.{Refused, Step}
use Rattle.gg_net.specs.markings.Goes.{Stopped}

-- a step leads from one network to another; a step that isn't an event is never done
abbrev pub IsStep : Network → Option Event → Network → Type 0
IsStep old None new = ⊥
IsStep old (Some event) new = Step old event new

-- a step is refused for this cause; one that isn't an event is a stranger
abbrev pub StepRefused : Network → Option Event → StepRefusal → Type 0
StepRefused net None cause = cause ≡ Stranger
StepRefused net (Some event) cause = Refused net event cause

-- these steps, one after another, lead from one network to another
abbrev pub Steps : Network → List (Option Event) → Network → Type 0
Steps old [] new = new ≡ old
Steps old (event ∷ events) new = (next : Network) × IsStep old event next × Steps next events new

-- The first of these steps has number k. Some of them are done and lead to a network, and the next one is refused.
pub record StopsAt (k : ℕ) (old : Network) (events : List (Option Event)) (new : Network) (stopped : Stopped) : Type 0 where
  -- how many steps were done
  pub done : ℕ
  pub steps : Steps old (take done events) new
  pub event : Option Event
  pub next : slice_get events done ≡ Some event
  pub number : stopped.step ≡ k + done
  pub refused : StepRefused new event stopped.cause
