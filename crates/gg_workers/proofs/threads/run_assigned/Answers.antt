use Rattle.std.proofs.Common.{◌<◌, List, [], ◌++◌, length, take, drop, sym, ◌∙◌, subst}
use Rattle.gg_workers.specs.declared.worker.Worker.{Worker}
use Rattle.gg_workers.specs.inside.LinkedHosts.{ReadyAt, DoneAt}
use Rattle.gg_workers.specs.inside.Assigned.{Assigning}
use Rattle.gg_workers.proofs.TogetherLemmas.{assigned-linked_hosts, assigned-falls, collect-ready, collected-linked_hosts, collected-numbered, take-whole, ready-lent, collected-lent}
use Rattle.gg_workers.proofs.threads.run_assigned.Goals as goal

pub run_all-requires-clause-linked_hosts : goal.run_all-requires-clause-linked_hosts
run_all-requires-clause-linked_hosts g c κs within = assigned-linked_hosts g.H.Host.machines c.args.threads.now (ReadyAt g.L.Link.takes_from g.L.Link.puts_into g.L.Link.taking g.L.Link.putting g.Z.Streams.flow g.E.Era.start c.args.stations.now c.args.links.now c.args.upto) c.args.linked_hosts.now.items (length c.args.workers.now.items) c.deref_mut.result.now (subst (λ (l : List (Worker g.row.H.Denot g.row.L-TakeSeat.Denot g.row.L-PutSeat.Denot)). Assigning c.args.linked_hosts.now.items (length c.args.workers.now.items) 0 (length c.args.linked_hosts.now.items) [] l) (sym c.deref_mut.ensures.value) c.assign_hosts.ensures.assigned) c.requires.linked_hosts

pub run_all-requires-clause-falls : goal.run_all-requires-clause-falls
run_all-requires-clause-falls g c κs within = assigned-falls g.H.Host.machines c.args.threads.now (ReadyAt g.L.Link.takes_from g.L.Link.puts_into g.L.Link.taking g.L.Link.putting g.Z.Streams.flow g.E.Era.start c.args.stations.now c.args.links.now c.args.upto) c.args.linked_hosts.now.items (length c.args.workers.now.items) c.deref_mut.result.now (subst (λ (l : List (Worker g.row.H.Denot g.row.L-TakeSeat.Denot g.row.L-PutSeat.Denot)). Assigning c.args.linked_hosts.now.items (length c.args.workers.now.items) 0 (length c.args.linked_hosts.now.items) [] l) (sym c.deref_mut.ensures.value) c.assign_hosts.ensures.assigned)

pub collect_hosts-requires-clause-ready : goal.collect_hosts-requires-clause-ready
collect_hosts-requires-clause-ready g c = ready-lent c.run_all.new.workers (take c.assign_hosts.new.workers.len (c.run_all.new.workers ++ drop (length c.run_all.new.workers) c.assign_hosts.new.workers.items)) (length c.args.workers.now.items) (length c.args.linked_hosts.now.items) c.len-count.result c.assign_hosts.new.linked_hosts.items (take-whole c.assign_hosts.new.workers.len c.run_all.new.workers (drop (length c.run_all.new.workers) c.assign_hosts.new.workers.items) (c.run_all.auto.workers ∙ c.deref_mut.ensures.len)) (c.run_all.auto.workers ∙ (subst (λ (l : List (Worker g.row.H.Denot g.row.L-TakeSeat.Denot g.row.L-PutSeat.Denot)). Assigning c.args.linked_hosts.now.items (length c.args.workers.now.items) 0 (length c.args.linked_hosts.now.items) [] l) (sym c.deref_mut.ensures.value) c.assign_hosts.ensures.assigned).count) (c.len-count.ensures ∙ c.args.linked_hosts.now.ok.0) c.assign_hosts.ensures.none
    (collect-ready g.H.Host.machines c.args.threads.now (DoneAt g.L.Link.takes_from g.L.Link.puts_into g.L.Link.taking g.L.Link.putting g.Z.Streams.flow g.E.Era.start c.args.stations.now c.args.links.now c.args.upto) c.args.linked_hosts.now.items (length c.args.workers.now.items) c.deref_mut.result.now (subst (λ (l : List (Worker g.row.H.Denot g.row.L-TakeSeat.Denot g.row.L-PutSeat.Denot)). Assigning c.args.linked_hosts.now.items (length c.args.workers.now.items) 0 (length c.args.linked_hosts.now.items) [] l) (sym c.deref_mut.ensures.value) c.assign_hosts.ensures.assigned) c.run_all.new.workers c.run_all.auto.workers c.run_all.ensures.numbers)

pub returns-clause-numbered : goal.returns-clause-numbered
returns-clause-numbered g c = collected-numbered c.run_all.new.workers c.collect_hosts.new.workers.items (length c.args.workers.now.items) (length c.args.linked_hosts.now.items) c.collect_hosts.new.linked_hosts.items (collected-lent c.run_all.new.workers (take c.assign_hosts.new.workers.len (c.run_all.new.workers ++ drop (length c.run_all.new.workers) c.assign_hosts.new.workers.items)) c.collect_hosts.new.workers.items (length c.args.workers.now.items) (length c.args.linked_hosts.now.items) c.len-count.result c.collect_hosts.new.linked_hosts.items (take-whole c.assign_hosts.new.workers.len c.run_all.new.workers (drop (length c.run_all.new.workers) c.assign_hosts.new.workers.items) (c.run_all.auto.workers ∙ c.deref_mut.ensures.len)) (c.run_all.auto.workers ∙ (subst (λ (l : List (Worker g.row.H.Denot g.row.L-TakeSeat.Denot g.row.L-PutSeat.Denot)). Assigning c.args.linked_hosts.now.items (length c.args.workers.now.items) 0 (length c.args.linked_hosts.now.items) [] l) (sym c.deref_mut.ensures.value) c.assign_hosts.ensures.assigned).count) (c.len-count.ensures ∙ c.args.linked_hosts.now.ok.0) c.collect_hosts.ensures)

pub returns-clause-linked_hosts : goal.returns-clause-linked_hosts
returns-clause-linked_hosts g c = collected-linked_hosts g.H.Host.machines c.args.threads.now (DoneAt g.L.Link.takes_from g.L.Link.puts_into g.L.Link.taking g.L.Link.putting g.Z.Streams.flow g.E.Era.start c.args.stations.now c.args.links.now c.args.upto) c.run_all.new.workers c.collect_hosts.new.workers.items (length c.args.workers.now.items) (length c.args.linked_hosts.now.items) c.collect_hosts.new.linked_hosts.items (collected-lent c.run_all.new.workers (take c.assign_hosts.new.workers.len (c.run_all.new.workers ++ drop (length c.run_all.new.workers) c.assign_hosts.new.workers.items)) c.collect_hosts.new.workers.items (length c.args.workers.now.items) (length c.args.linked_hosts.now.items) c.len-count.result c.collect_hosts.new.linked_hosts.items (take-whole c.assign_hosts.new.workers.len c.run_all.new.workers (drop (length c.run_all.new.workers) c.assign_hosts.new.workers.items) (c.run_all.auto.workers ∙ c.deref_mut.ensures.len)) (c.run_all.auto.workers ∙ (subst (λ (l : List (Worker g.row.H.Denot g.row.L-TakeSeat.Denot g.row.L-PutSeat.Denot)). Assigning c.args.linked_hosts.now.items (length c.args.workers.now.items) 0 (length c.args.linked_hosts.now.items) [] l) (sym c.deref_mut.ensures.value) c.assign_hosts.ensures.assigned).count) (c.len-count.ensures ∙ c.args.linked_hosts.now.ok.0) c.collect_hosts.ensures)
    (λ j e lt. c.run_all.ensures.linked_hosts j e (subst (λ n. j < n) c.run_all.auto.workers lt))
