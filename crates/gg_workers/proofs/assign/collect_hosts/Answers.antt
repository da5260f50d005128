use Rattle.std.proofs.Common.{length, ◌∙◌}
use Rattle.gg_workers.proofs.AssignLemmas.{collect_turn_some, collect_turn, came}
use Rattle.gg_workers.proofs.assign.collect_hosts.Goals as goal

pub give_back-requires : goal.give_back-requires
give_back-requires g c = collect_turn_some c.args.workers.now.items (length c.args.workers.now.items) c.loop-host.host c.args.count c.len.result c.loop-host.workers.items c.loop-host.linked_hosts.items c.index_mut.result.now c.loop-host.invariant.0 c.loop-host-test.true (c.len.ensures ∙ c.loop-host.workers.ok.0 ∙ c.loop-host.invariant.0.count) c.requires.some c.index_mut.ensures.value

pub loop-host-preserved : goal.loop-host-preserved
loop-host-preserved g c = (rw c.push_reserved.ensures.items (collect_turn c.args.workers.now.items (length c.args.workers.now.items) c.loop-host.host c.args.count c.len.result c.loop-host.workers.items c.loop-host.linked_hosts.items c.index_mut.result.now c.loop-host.invariant.0 c.loop-host-test.true (c.len.ensures ∙ c.loop-host.workers.ok.0 ∙ c.loop-host.invariant.0.count) c.requires.some c.index_mut.ensures.value c.give_back.new.worker c.in-Some.linked_host (came c.in-Some.linked_host c.index_mut.result.now.linked_hosts.items c.give_back.new.worker.linked_hosts.items c.in-Some.ensures)), c.push_reserved.ensures.capacity ∙ c.loop-host.invariant.1)
