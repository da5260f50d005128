use Rattle.std.proofs.Common.{◌≡◌, ℕ, ◌<◌, length, sym, ◌∙◌, arith, length-set, subst}
use Rattle.gg_node.specs.Machine.{machine_at}
use Rattle.gg_workers.specs.inside.LinkedHosts.{ReadyAt, DoneAt}
use Rattle.gg_workers.proofs.ListLemmas.{read_at}
use Rattle.gg_workers.proofs.StepLemmas.{told-machines}
use Rattle.gg_workers.proofs.TurnLemmas.{turn-step, done-ready, pass-done, thread-here}
use Rattle.gg_workers.proofs.turns.pass_threads.Goals as goal

pub loop-thread-preserved : goal.loop-thread-preserved
loop-thread-preserved g c =
    let inv = c.loop-thread.invariant in
    let n : ℕ = c.loop-thread.thread in
    let end = c.loop-thread-test.true in
    let inside : c.loop-thread.thread < length c.loop-thread.by_thread.items = omega (arith, end, inv.1, c.len-thread-end.ensures, c.args.by_thread.now.ok.0) in
    let p = c.index_mut-machine_seats.result.now in
    let q = c.pass-stepped.new.machine_seats in
    let xs = g.H.Host.machines c.loop-thread.host in
    let ys = g.H.Host.machines c.pass-stepped.new.host in
    let s = c.index-stations-machine_seats.result in
    let was = read_at c.loop-thread.by_thread.items c.loop-thread.thread c.index_mut-machine_seats.result.now inside c.index_mut-machine_seats.ensures.value in
    let ready = subst (λ d. ReadyAt g.L.Link.takes_from g.L.Link.puts_into g.L.Link.taking g.L.Link.putting g.Z.Streams.flow g.E.Era.start c.args.stations.now c.args.links.now c.args.upto c.args._number c.loop-thread.thread (machine_at xs c.loop-thread.thread) d) (was p) (inv.0.each c.loop-thread.thread p inside) in
    let at = read_at c.args.stations.now p.machine s ready.at.known c.index-stations-machine_seats.is in
    let same : s.thread ≡ c.loop-thread.thread = thread-here g.L.Link.takes_from g.L.Link.puts_into g.L.Link.taking g.L.Link.putting g.Z.Streams.flow g.E.Era.start c.args.stations.now c.args.links.now c.args.upto c.requires.kept c.requires.listed.1 c.args._number c.loop-thread.thread (machine_at xs c.loop-thread.thread) (machine_at ys s.thread) p q ready s at in
    let ready2 = subst (λ k. ReadyAt g.L.Link.takes_from g.L.Link.puts_into g.L.Link.taking g.L.Link.putting g.Z.Streams.flow g.E.Era.start c.args.stations.now c.args.links.now c.args.upto c.args._number c.loop-thread.thread (machine_at xs k) p) (sym same) ready in
    let done = pass-done g.L.Link.takes_from g.L.Link.puts_into g.L.Link.taking g.L.Link.putting g.Z.Streams.flow g.E.Era.start c.args.stations.now c.args.links.now c.args.upto c.requires.kept c.requires.listed.1 c.args._number c.loop-thread.thread (machine_at xs s.thread) (machine_at ys s.thread) p q ready2 s at c.pass-stepped.ensures.machine c.pass-stepped.ensures.machine_seats c.pass-stepped.ensures.went_on c.pass-stepped.ensures.done in (
      turn-step (ReadyAt g.L.Link.takes_from g.L.Link.puts_into g.L.Link.taking g.L.Link.putting g.Z.Streams.flow g.E.Era.start c.args.stations.now c.args.links.now c.args.upto) (DoneAt g.L.Link.takes_from g.L.Link.puts_into g.L.Link.taking g.L.Link.putting g.Z.Streams.flow g.E.Era.start c.args.stations.now c.args.links.now c.args.upto) (done-ready g.L.Link.takes_from g.L.Link.puts_into g.L.Link.taking g.L.Link.putting g.Z.Streams.flow g.E.Era.start c.args.stations.now c.args.links.now c.args.upto) c.args._number c.loop-thread.thread s.thread xs ys c.loop-thread.by_thread.items q inv.0 inside same c.pass-stepped.ensures.alone done,
      length-set c.loop-thread.by_thread.items c.loop-thread.thread q ∙ inv.1,
      told-machines (g.H.Host.machines c.args.host.now) xs ys s.thread (omega (arith, same, inside, inv.0.count)) c.pass-stepped.ensures.alone c.loop-thread.stepped c.pass-stepped.result inv.2 c.pass-stepped.ensures.stepped,
    )
