use Rattle.std.proofs.Common.{◌≡◌, ◌∷◌, map, take}
use Rattle.gg_elab_sites.specs.inside.Views.{step_of}
use Rattle.gg_elab_sites.proofs.sites.steps_with.Given as goal

abbrev pub invariant-loop-step : goal.invariant-loop-step
invariant-loop-step l = map step_of l.steps.items ≡ step_of l.fn.step ∷ map step_of (take l.step-index l.more)
