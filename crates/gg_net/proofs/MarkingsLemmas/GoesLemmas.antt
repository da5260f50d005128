-- Each event may be done in a network, or is refused, just as in its marking, and changes the marking as `after` says.
use Rattle.std.proofs.Common.{◌≡◌, None, ap, sym, ◌∙◌}
use Rattle.gg_flat.specs.Streams.{Flow}
use Rattle.gg_net.specs.declared.event.Event.{Event}
use Rattle.gg_net.specs.declared.event.Event.TheVariants.{Latch, Fire, Serve, Finish}
use Rattle.gg_net.specs.Network.{Network, frame_of}
use Rattle.gg_net.specs.Kept.{Kept}
use Rattle.gg_net.specs.Step.{Ready, Step}
use Rattle.gg_net.proofs.TableLemmas.{latch-can, fire-can, serve-can, finish-can}
use Rattle.gg_net.specs.markings.Marking.{Layout, marked_refusal, after}
use Rattle.gg_net.specs.inside.Fits.{HasLayout, marking_of}
use Rattle.gg_net.proofs.MarkingsLemmas.AgreeLemmas.{marked}
use Rattle.gg_net.proofs.MarkingsLemmas.LatchStep.{latch-frame, latch-step}
use Rattle.gg_net.proofs.MarkingsLemmas.FireStep.{fire-frame, fire-step}
use Rattle.gg_net.proofs.MarkingsLemmas.ServeStep.{serve-frame, serve-step}
use Rattle.gg_net.proofs.MarkingsLemmas.FinishStep.{finish-frame, finish-step}

module _ (flow : Flow) (net : Network) (kept : Kept flow net) (layout : Layout) (has : HasLayout (frame_of net) layout) where
  pub ready-free : (event : Event) → Ready net event → marked_refusal layout (marking_of net) event ≡ None
  ready-free event ready = sym (marked flow net kept layout has event) ∙ ready

  pub free-ready : (event : Event) → marked_refusal layout (marking_of net) event ≡ None → Ready net event
  free-ready event free = marked flow net kept layout has event ∙ free

  pub step-marks : (event : Event) (new : Network) → Step net event new → marking_of new ≡ after layout (marking_of net) event
  step-marks (Latch c) new step = ap marking_of step.after ∙ latch-step flow net kept layout c (latch-can net c step.ready)
  step-marks (Fire c) new step = ap marking_of step.after.after ∙ fire-step flow net kept layout c step.after.token (fire-can net kept.sound.wired c step.ready)
  step-marks (Serve m p) new step = ap marking_of step.after ∙ serve-step net layout m p (serve-can net kept.sound.wired m p step.ready).there.0
  step-marks (Finish m) new step = ap marking_of step.after.after ∙ finish-step net layout m step.after.state has (finish-can net kept.sound.wired m step.ready).there

pub step-frame : (old : Network) (event : Event) (new : Network) → Step old event new → frame_of new ≡ frame_of old
step-frame old (Latch c) new step = ap frame_of step.after ∙ latch-frame old c
step-frame old (Fire c) new step = ap frame_of step.after.after ∙ fire-frame old c step.after.token
step-frame old (Serve m p) new step = ap frame_of step.after ∙ serve-frame old m
step-frame old (Finish m) new step = ap frame_of step.after.after ∙ finish-frame old m step.after.state
