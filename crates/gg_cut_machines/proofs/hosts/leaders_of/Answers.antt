use Rattle.std.proofs.Common.{◌∙◌, ◌-◌, length, arith}
use Rattle.std.proofs.lemmas.List.{get_or_default}
use Rattle.gg_flat.specs.Line.{value_at}
use Rattle.gg_cut_machines.proofs.HostLemmas.{leader-more}
use Rattle.gg_cut_machines.proofs.hosts.leaders_of.Goals as goal

pub loop-step-preserved : goal.loop-step-preserved
loop-step-preserved c = (
  omega arith,
  λ m lt.
      leader-more c.args.units.now c.args.share.now c.loop-step.step m c.as_slice.result.now (value_at c.loop-step.leaders.items m) (value_at c.lead.new.leaders.items m) (omega arith)
      (c.as_slice.ensures ∙ c.index-share-share.is ∙ get_or_default c.args.share.now (length c.args.share.now - 1 - c.loop-step.step) c.index-share-share.result c.as_slice.result.now (omega arith))
      (c.loop-step.invariant.1 m lt) (c.lead.ensures.led m (omega arith)),
)
