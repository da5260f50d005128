use Rattle.std.proofs.Common.{◌∙◌, sym, ap}
use Rattle.gg_net.specs.Network.{Frame}
use Rattle.gg_measure.proofs.DoneLemmas.{all-drained, all-kept}
use Rattle.gg_measure.proofs.run.run_to_end.Goals as goal

pub returns-clause-kept : goal.returns-clause-kept
returns-clause-kept g c = all-kept g.Z.Streams.flow c.run_to.new.net c.kept-2.ensures c.end-end.result (c.end-end.ensures ∙ sym (ap (λ (frame : Frame). frame.end) c.run_to.ensures.frame)) c.run_to.ensures.there

pub returns-clause-drained : goal.returns-clause-drained
returns-clause-drained g c = all-drained g.Z.Streams.flow c.run_to.new.net c.kept-2.ensures c.end-end.result (c.end-end.ensures ∙ sym (ap (λ (frame : Frame). frame.end) c.run_to.ensures.frame)) c.run_to.ensures.there
