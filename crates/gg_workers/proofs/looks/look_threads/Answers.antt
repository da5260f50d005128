use Rattle.std.proofs.Common.{◌≡◌, ℕ, ◌<◌, length, false, refl, sym, arith, length-set, subst}
use Rattle.gg_node.specs.Machine.{machine_at}
use Rattle.gg_workers.specs.inside.LinkedHosts.{DoneAt}
use Rattle.gg_workers.proofs.ListLemmas.{read_at}
use Rattle.gg_workers.proofs.StepLemmas.{told-machines}
use Rattle.gg_workers.proofs.TurnLemmas.{one-turned, done-ready, look-done, thread-here}
use Rattle.gg_workers.proofs.looks.look_threads.Goals as goal

pub returns : goal.returns
returns g c =
    let w = g.E.Era.start in
    let n : ℕ = c.args.own.now.thread in
    let inside : n < length c.args.by_thread.now.items = omega (arith, c.if-thread-len.false, c.len.ensures, c.args.by_thread.now.ok.0) in
    let p = c.index_mut-machine_seats.result.now in
    let q = c.look.new.machine_seats in
    let xs = g.H.Host.machines c.args.host.now in
    let ys = g.H.Host.machines c.look.new.host in
    let s = c.index-stations-machine_seats.result in
    let was = read_at c.args.by_thread.now.items n p inside c.index_mut-machine_seats.ensures.value in
    let first = subst (λ d. DoneAt g.L.Link.takes_from g.L.Link.puts_into g.L.Link.taking g.L.Link.putting g.Z.Streams.flow w c.args.stations.now c.args.links.now c.args.upto c.args._number n (machine_at xs n) d) (was p) (c.requires.by_thread.each n p inside) in
    let ready = done-ready g.L.Link.takes_from g.L.Link.puts_into g.L.Link.taking g.L.Link.putting g.Z.Streams.flow w c.args.stations.now c.args.links.now c.args.upto c.args._number n (machine_at xs n) p first in
    let at = read_at c.args.stations.now p.machine s first.at.known c.index-stations-machine_seats.is in
    let same : s.thread ≡ n = thread-here g.L.Link.takes_from g.L.Link.puts_into g.L.Link.taking g.L.Link.putting g.Z.Streams.flow w c.args.stations.now c.args.links.now c.args.upto c.requires.kept c.requires.listed.1 c.args._number n (machine_at xs n) (machine_at ys s.thread) p q ready s at in
    let first2 = subst (λ k. DoneAt g.L.Link.takes_from g.L.Link.puts_into g.L.Link.taking g.L.Link.putting g.Z.Streams.flow w c.args.stations.now c.args.links.now c.args.upto c.args._number n (machine_at xs k) p) (sym same) first in
    let ready2 = done-ready g.L.Link.takes_from g.L.Link.puts_into g.L.Link.taking g.L.Link.putting g.Z.Streams.flow w c.args.stations.now c.args.links.now c.args.upto c.args._number n (machine_at xs s.thread) p first2 in
    let done = look-done g.L.Link.takes_from g.L.Link.puts_into g.L.Link.taking g.L.Link.putting g.Z.Streams.flow w c.args.stations.now c.args.links.now c.args.upto c.requires.kept c.requires.listed.1 c.args._number n (machine_at xs s.thread) (machine_at ys s.thread) p q ready2 s at c.look.ensures.machine c.look.ensures.machine_seats c.look.ensures.went_on first2.done in
    record {
      by_thread = one-turned (DoneAt g.L.Link.takes_from g.L.Link.puts_into g.L.Link.taking g.L.Link.putting g.Z.Streams.flow w c.args.stations.now c.args.links.now c.args.upto) c.args._number n s.thread xs ys c.args.by_thread.now.items q c.requires.by_thread inside same c.look.ensures.alone done;
      count = length-set c.args.by_thread.now.items n q;
      told = told-machines xs xs ys s.thread (omega (arith, same, inside, c.requires.by_thread.count)) c.look.ensures.alone false c.look.result.stepped refl c.look.ensures.stepped;
    }
