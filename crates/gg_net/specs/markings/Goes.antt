-- Steps one after another on markings: where they lead, or which of them is refused first.
-- Source: Commoner, Holt, Even and Pnueli, "Marked Directed Graphs" (1971) (from marking to marking, one firing after
-- another). This program's own: a step that isn't an event is refused as a stranger, and steps are numbered.
use Rattle.std.specs.Prelude.{ℕ, suc, List, [], ◌∷◌, Option, Some, None, Result, Ok, Err}
use Rattle.gg_net.specs.declared.event.Event.{Event}
use Rattle.gg_net.specs.declared.event.StepRefusal.{StepRefusal}
use Rattle.gg_net.specs.declared.event.StepRefusal.TheVariants.{Stranger}
use Rattle.gg_net.specs.markings.Marking.{Layout, Marking, marked_refusal, after}

-- A step that was refused: its number, and why.
pub record Stopped : Type 0 where
  pub step : ℕ
  pub cause : StepRefusal

-- why a step is refused; one that isn't an event is refused as a stranger
abbrev pub step_refusal : Layout → Marking → Option Event → Option StepRefusal
step_refusal layout marking None = Some Stranger
step_refusal layout marking (Some event) = marked_refusal layout marking event

-- the marking after a step; one that isn't an event changes nothing
abbrev pub after_step : Layout → Marking → Option Event → Marking
after_step layout marking None = marking
after_step layout marking (Some event) = after layout marking event

-- goes on with the next step, or stops
abbrev pub go_on : ℕ → Option StepRefusal → Result Marking Stopped → Result Marking Stopped
go_on k None rest = rest
go_on k (Some cause) rest = Err (record { step = k; cause = cause })

-- steps k, k + 1, .., beginning at a marking
abbrev pub replayed_from : Layout → ℕ → Marking → List (Option Event) → Result Marking Stopped
replayed_from layout k marking [] = Ok marking
replayed_from layout k marking (event ∷ events) =
    go_on k (step_refusal layout marking event) (replayed_from layout (suc k) (after_step layout marking event) events)
