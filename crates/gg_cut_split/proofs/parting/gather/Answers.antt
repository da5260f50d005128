use Rattle.gg_cut_split.proofs.GatherLemmas.{GatheredTo-none, GatheredTo-more}
use Rattle.gg_cut_split.proofs.parting.gather.Goals as goal

pub loop-machine-init : goal.loop-machine-init
loop-machine-init c = GatheredTo-none c.args.globals.now c.args.memories.now c.new-shares.result.items c.new-shares.ensures.items

pub loop-machine-preserved : goal.loop-machine-preserved
loop-machine-preserved c =
    GatheredTo-more c.args.globals.now c.args.memories.now c.loop-machine.machine c.loop-machine.globals c.loop-machine.memories c.loop-machine.shares.items c.loop-machine.invariant
    c.share_at-share.result c.share_at-share.new.globals c.share_at-share.new.memories c.push.new.self.items c.share_at-share.ensures.share c.share_at-share.ensures.globals c.share_at-share.ensures.memories c.in_ok-push.ensures.items
