use Rattle.std.proofs.Common.{ℕ, ◌-◌, ◌<◌, false, length, refl, arith}
use Rattle.gg_workers.specs.inside.LinkedHosts.{DoneAt}
use Rattle.gg_workers.specs.inside.Turns.{machines_in}
use Rattle.gg_workers.proofs.ListLemmas.{read_at}
use Rattle.gg_workers.proofs.StepLemmas.{told-hosts}
use Rattle.gg_workers.proofs.TurnLemmas.{one-passed, one-numbered}
use Rattle.gg_workers.proofs.looks.look_all.Goals as goal

pub returns : goal.returns
returns g c =
    let bs = c.args.linked_hosts.now.items in
    let k : ℕ = c.len-count.result - c.args.own.now.before - 1 in
    let inside : k < length bs = omega (arith, c.if-before-count.false, c.len-count.ensures, c.args.linked_hosts.now.ok.0) in
    let p = c.index_mut.result.now in
    let q = c.look_host.new.linked_host in
    let was = read_at bs k p inside c.index_mut.ensures.value in
    record {
      linked_hosts = one-passed g.H.Host.machines c.args.threads.now (DoneAt g.L.Link.takes_from g.L.Link.puts_into g.L.Link.taking g.L.Link.putting g.Z.Streams.flow g.E.Era.start c.args.stations.now c.args.links.now c.args.upto) bs k p q inside was c.look_host.ensures.number c.requires.linked_hosts c.look_host.ensures.linked_host;
      numbers = one-numbered g.H.Host.machines c.args.threads.now (DoneAt g.L.Link.takes_from g.L.Link.puts_into g.L.Link.taking g.L.Link.putting g.Z.Streams.flow g.E.Era.start c.args.stations.now c.args.links.now c.args.upto) bs k p q inside was c.look_host.ensures.number;
      told = told-hosts g.H.Host.machines bs k p q inside was (machines_in g.H.Host.machines bs) false c.look_host.result.stepped refl c.look_host.ensures.told;
    }
