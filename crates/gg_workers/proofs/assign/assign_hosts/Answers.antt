use Rattle.std.proofs.Common.{length, ◌∙◌, sym}
use Rattle.gg_workers.proofs.AssignLemmas.{assign_turn, assign_end}
use Rattle.gg_workers.proofs.assign.assign_hosts.Goals as goal

pub loop-linked_host-preserved : goal.loop-linked_host-preserved
loop-linked_host-preserved g c = (
  assign_turn c.args.linked_hosts.now.items c.loop-linked_host.linked_hosts.items c.pop.new.self.items c.in-Some.linked_host c.loop-linked_host.workers.items c.index_mut.result.now c.give.new.worker (length c.args.workers.now.items) c.len-host.result c.len.result
      c.loop-linked_host.invariant.0 c.in-Some.ensures.items (c.len-host.ensures ∙ c.pop.new.self.ok.0) (c.len.ensures ∙ c.loop-linked_host.workers.ok.0 ∙ c.loop-linked_host.invariant.0.count) c.requires.some c.requires.numbered c.index_mut.ensures.value c.give.ensures.items c.give.ensures.room,
  c.pop.ensures.capacity ∙ c.loop-linked_host.invariant.1,
)

pub returns-clause-assigned : goal.returns-clause-assigned
returns-clause-assigned g c = assign_end c.args.linked_hosts.now.items c.loop-linked_host.linked_hosts.items (length c.args.workers.now.items) c.loop-linked_host.workers.items c.loop-linked_host.invariant.0 (sym c.loop-linked_host.linked_hosts.ok.0 ∙ c.in_default.ensures.cases.0)
