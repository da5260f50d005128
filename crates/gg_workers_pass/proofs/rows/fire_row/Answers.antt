use Rattle.std.proofs.Common.{◌≡◌, ◌<◌, ◌∙◌, length, slice_set, sym, ap, subst, arith, refl}
use Rattle.std.specs.Prelude.{max, min}
use Rattle.std.proofs.lemmas.List.{length-map}
use Rattle.gg_node.specs.Machine.{machine_at}
use Rattle.gg_net.specs.Network.{Kind, kind_of}
use Rattle.gg_workers_pass.specs.inside.Rows.{FiresTried, StepsDone}
use Rattle.gg_workers_pass.proofs.RowLemmas.{alone-start, alone-within, read-some}
use Rattle.gg_workers_pass.proofs.FireLemmas.{fires-start, may-give, token-next, fire-step, alone-fire}
use Rattle.gg_workers_pass.proofs.DoneLemmas.{fire-done, done-more}
use Rattle.gg_workers_pass.proofs.rows.fire_row.Goals as goal

pub try_fire-fired-requires-clause-may : goal.try_fire-fired-requires-clause-may
try_fire-fired-requires-clause-may g c =
    let w = g.E.Era.start in
    let below = subst (λ n. c.args._machine < n) (sym (length-map w.machines kind_of)) c.requires.here.1 in
    let y = machine_at (g.H.Host.machines c.loop-place.host) c.args.thread in
    λ κs outlive. may-give g.L.Link.puts_into g.L.Link.putting g.Z.Streams.flow w c.requires.kept c.args._machine below c.args.links.now c.args.outs.now (machine_at (g.H.Host.machines c.args.host.now) c.args.thread) c.requires.outs.0 c.args.first c.loop-place.place (machine_at (g.H.Host.machines c.args.host.now) c.args.thread) c.args.seats.now.items (machine_at (g.H.Host.machines c.loop-place.host) c.args.thread) c.loop-place.seats.items c.loop-place.invariant.tried c.requires.below (omega (arith, c.loop-place-test.true, c.min-end.ensures)) c.index_mut-seat.result.now c.index_mut-seat.ensures.value

pub try_fire-fired-requires-clause-token : goal.try_fire-fired-requires-clause-token
try_fire-fired-requires-clause-token g c =
    let w = g.E.Era.start in
    let below = subst (λ n. c.args._machine < n) (sym (length-map w.machines kind_of)) c.requires.here.1 in
    let y = machine_at (g.H.Host.machines c.loop-place.host) c.args.thread in
    λ κs outlive. token-next g.L.Link.puts_into g.L.Link.putting g.Z.Streams.flow w c.requires.kept c.args._machine below c.args.links.now c.args.outs.now (machine_at (g.H.Host.machines c.args.host.now) c.args.thread) c.requires.outs.0 c.args.first c.loop-place.place (machine_at (g.H.Host.machines c.args.host.now) c.args.thread) c.args.seats.now.items (machine_at (g.H.Host.machines c.loop-place.host) c.args.thread) c.loop-place.seats.items c.loop-place.invariant.tried c.requires.below (omega (arith, c.loop-place-test.true, c.min-end.ensures)) c.index_mut-seat.result.now c.index_mut-seat.ensures.value

pub loop-place-init : goal.loop-place-init
loop-place-init g c =
    let w = g.E.Era.start in
    let below = subst (λ n. c.args._machine < n) (sym (length-map w.machines kind_of)) c.requires.here.1 in
    let x = machine_at (g.H.Host.machines c.args.host.now) c.args.thread in
    record {
      tried = fires-start g.L.Link.puts_into g.L.Link.putting g.Z.Streams.flow w c.requires.kept c.args._machine below c.args.links.now c.args.outs.now x c.requires.outs.0 c.args.first x c.args.seats.now.items c.requires.own c.requires.placed;
      alone = alone-start (g.H.Host.machines c.args.host.now) c.args.thread;
      from = omega arith;
      upto = omega arith;
      done = refl;
    }

pub loop-place-preserved : goal.loop-place-preserved
loop-place-preserved g c =
    let w = g.E.Era.start in
    let below = subst (λ n. c.args._machine < n) (sym (length-map w.machines kind_of)) c.requires.here.1 in
    let inv = c.loop-place.invariant in
    let inside : c.loop-place.place < length c.args.outs.now = omega (arith, c.loop-place-test.true, c.min-end.ensures) in
    let long : c.loop-place.place < length c.loop-place.seats.items = omega (arith, inside, inv.tried.placed.long) in
    let within = alone-within (g.H.Host.machines c.args.host.now) (g.H.Host.machines c.loop-place.host) c.args.thread c.requires.thread inv.alone in
    record {
      tried = subst (λ n. FiresTried g.L.Link.puts_into g.L.Link.putting g.Z.Streams.flow w c.args._machine c.args.links.now c.args.outs.now c.args.first n (machine_at (g.H.Host.machines c.args.host.now) c.args.thread) c.args.seats.now.items (machine_at (g.H.Host.machines c.try_fire-fired.new.host) c.args.thread) (slice_set c.loop-place.seats.items c.loop-place.place c.try_fire-fired.new.seat)) (omega arith)
          (fire-step g.L.Link.puts_into g.L.Link.putting g.Z.Streams.flow w c.requires.kept c.args._machine below c.args.links.now c.args.outs.now (machine_at (g.H.Host.machines c.args.host.now) c.args.thread) c.requires.outs.0 c.args.first c.loop-place.place (machine_at (g.H.Host.machines c.args.host.now) c.args.thread) c.args.seats.now.items (machine_at (g.H.Host.machines c.loop-place.host) c.args.thread) c.loop-place.seats.items inv.tried c.requires.below inside c.index_mut-seat.result.now c.index_mut-seat.ensures.value
          c.try_fire-fired.new.seat c.index-links-channel.result (read-some c.args.links.now _ c.index-links-channel.result (let k = (c.requires.outs.0.at c.loop-place.place inside).known in omega (arith, k, c.requires.here.0)) c.index-links-channel.is) c.try_fire-fired.ensures.seat long
          (g.H.Host.machines c.loop-place.host) (g.H.Host.machines c.try_fire-fired.new.host) c.args.thread refl within c.try_fire-fired.result c.try_fire-fired.ensures.tried);
      alone = alone-fire (g.H.Host.machines c.args.host.now) (g.H.Host.machines c.loop-place.host) (g.H.Host.machines c.try_fire-fired.new.host) c.args.thread c.loop-place.place _ _ c.requires.thread inv.alone c.try_fire-fired.result c.try_fire-fired.ensures.tried;
      from = omega (arith, inv.from);
      upto = omega (arith, c.loop-place-test.true, c.min-end.ensures);
      done = subst (StepsDone (g.H.Host.machines c.args.host.now) c.args.thread (g.H.Host.machines c.try_fire-fired.new.host)) (sym c.either-stepped.ensures)
          (done-more (g.H.Host.machines c.args.host.now) (g.H.Host.machines c.loop-place.host) (g.H.Host.machines c.try_fire-fired.new.host) c.args.thread c.loop-place.stepped c.try_fire-fired.result inv.done
          (fire-done (g.H.Host.machines c.loop-place.host) (g.H.Host.machines c.try_fire-fired.new.host) c.args.thread within c.loop-place.place _ _ c.try_fire-fired.result
          (omega (arith, inside, c.requires.outs.0.count, ap (λ (k : Kind). k.outs) (inv.tried.machine.kind ∙ sym c.requires.own.kind))) c.try_fire-fired.ensures.tried));
    }

pub returns-clause-tried : goal.returns-clause-tried
returns-clause-tried g c =
    let w = g.E.Era.start in
    let at_end : c.loop-place.place ≡ max c.args.first (min c.args.past (length c.args.outs.now)) = omega (arith, c.loop-place-test.false, c.loop-place.invariant.from, c.loop-place.invariant.upto, c.min-end.ensures) in
    subst (λ n. FiresTried g.L.Link.puts_into g.L.Link.putting g.Z.Streams.flow w c.args._machine c.args.links.now c.args.outs.now c.args.first n (machine_at (g.H.Host.machines c.args.host.now) c.args.thread) c.args.seats.now.items (machine_at (g.H.Host.machines c.loop-place.host) c.args.thread) c.loop-place.seats.items) at_end c.loop-place.invariant.tried
