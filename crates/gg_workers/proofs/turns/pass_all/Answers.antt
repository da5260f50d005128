use Rattle.std.proofs.Common.{◌≡◌, ◌-◌, ◌<◌, length, arith}
use Rattle.gg_workers.specs.inside.LinkedHosts.{ReadyAt, DoneAt}
use Rattle.gg_workers.specs.inside.Turns.{machines_in}
use Rattle.gg_workers.proofs.ListLemmas.{read_at}
use Rattle.gg_workers.proofs.StepLemmas.{told-hosts}
use Rattle.gg_workers.proofs.TurnLemmas.{pass-step, done-ready, same-long}
use Rattle.gg_workers.proofs.turns.pass_all.Goals as goal

pub loop-k-preserved : goal.loop-k-preserved
loop-k-preserved g c =
    let inv = c.loop-k.invariant in
    let some = c.loop-k-test.true in
    let long : length c.loop-k.linked_hosts.items ≡ length c.args.linked_hosts.now.items = same-long c.loop-k.linked_hosts.items c.args.linked_hosts.now.items inv.0.numbers in
    let inside : c.loop-k.k - 1 < length c.loop-k.linked_hosts.items = omega (arith, some, long, c.loop-k.auto.k, c.len-k.ensures, c.args.linked_hosts.now.ok.0) in
    let was = read_at c.loop-k.linked_hosts.items (c.loop-k.k - 1) c.index_mut.result.now inside c.index_mut.ensures.value in (
      pass-step g.H.Host.machines c.args.threads.now (ReadyAt g.L.Link.takes_from g.L.Link.puts_into g.L.Link.taking g.L.Link.putting g.Z.Streams.flow g.E.Era.start c.args.stations.now c.args.links.now c.args.upto) (DoneAt g.L.Link.takes_from g.L.Link.puts_into g.L.Link.taking g.L.Link.putting g.Z.Streams.flow g.E.Era.start c.args.stations.now c.args.links.now c.args.upto) (done-ready g.L.Link.takes_from g.L.Link.puts_into g.L.Link.taking g.L.Link.putting g.Z.Streams.flow g.E.Era.start c.args.stations.now c.args.links.now c.args.upto) c.loop-k.k c.args.linked_hosts.now.items c.loop-k.linked_hosts.items c.index_mut.result.now c.pass_host-stepped.new.linked_host inv.0 some inside
          was c.pass_host-stepped.ensures.linked_host c.pass_host-stepped.ensures.number,
      told-hosts g.H.Host.machines c.loop-k.linked_hosts.items (c.loop-k.k - 1) c.index_mut.result.now c.pass_host-stepped.new.linked_host inside was (machines_in g.H.Host.machines c.args.linked_hosts.now.items) c.loop-k.stepped c.pass_host-stepped.result inv.1 c.pass_host-stepped.ensures.told,
    )
