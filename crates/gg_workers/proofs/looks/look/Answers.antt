use Rattle.std.proofs.Common.{◌≡◌, ◌<◌, length, slice_set, sym, subst, ◌∙◌}
use Rattle.gg_node.specs.Machine.{machine_at}
use Rattle.gg_net.specs.Network.{kind_at, frame_of}
use Rattle.gg_net.specs.inside.Net.{IsListed}
use Rattle.gg_workers_pass.specs.inside.Pass.{HasSeatsAt, MachineWentOn}
use Rattle.gg_workers_pass.specs.inside.Rows.{StepsDone}
use Rattle.gg_workers_pass.proofs.RowLemmas.{alone-start, alone-within}
use Rattle.gg_workers_pass.proofs.WentLemmas.{went-nowhere}
use Rattle.gg_workers.proofs.LookLemmas.{ins-listed, outs-listed, nothing-done}
use Rattle.gg_workers.proofs.looks.look.Goals as goal

pub pass_chosen-stepped-requires-clause-here : goal.pass_chosen-stepped-requires-clause-here
pass_chosen-stepped-requires-clause-here g c κs within = (c.requires.here.0, subst (λ m. m < length g.E.Era.start.machines) (sym c.loop.invariant.machine) c.requires.here.1, c.requires.here.2)

pub pass_chosen-stepped-requires-clause-thread : goal.pass_chosen-stepped-requires-clause-thread
pass_chosen-stepped-requires-clause-thread g c κs within = subst (λ hosts. c.args.station.now.thread < length hosts) (sym c.loop.invariant.same) c.requires.thread

pub pass_chosen-stepped-requires-clause-listed : goal.pass_chosen-stepped-requires-clause-listed
pass_chosen-stepped-requires-clause-listed g c κs within =
    let w = g.E.Era.start in
    subst (λ m. IsListed w.wires m (kind_at (frame_of w).kinds m) c.args.station.now) (sym c.loop.invariant.machine) c.requires.listed

pub pass_chosen-stepped-requires-clause-machine_seats : goal.pass_chosen-stepped-requires-clause-machine_seats
pass_chosen-stepped-requires-clause-machine_seats g c κs within =
    subst (λ m. HasSeatsAt g.L.Link.takes_from g.L.Link.puts_into g.L.Link.taking g.L.Link.putting g.Z.Streams.flow g.E.Era.start c.args.links.now m c.args.station.now (g.H.Host.machines c.loop.host) c.loop.machine_seats) (sym c.loop.invariant.machine) c.loop.invariant.seats

pub is_past-requires-clause-thread : goal.is_past-requires-clause-thread
is_past-requires-clause-thread g c κs within =
    alone-within (g.H.Host.machines c.loop.host) (g.H.Host.machines c.pass_chosen-stepped.new.host) c.args.station.now.thread
    (subst (λ hosts. c.args.station.now.thread < length hosts) (sym c.loop.invariant.same) c.requires.thread) c.pass_chosen-stepped.ensures.alone

pub is_past-requires-clause-ins : goal.is_past-requires-clause-ins
is_past-requires-clause-ins g c κs within =
    let w = g.E.Era.start in
    ins-listed g.Z.Streams.flow w c.loop.machine_seats.machine c.args.station.now
    (subst (λ m. IsListed w.wires m (kind_at (frame_of w).kinds m) c.args.station.now) (sym c.loop.invariant.machine) c.requires.listed)
    (machine_at (g.H.Host.machines c.pass_chosen-stepped.new.host) c.args.station.now.thread) c.pass_chosen-stepped.ensures.machine_seats.machine

pub is_past-requires-clause-outs : goal.is_past-requires-clause-outs
is_past-requires-clause-outs g c κs within =
    let w = g.E.Era.start in
    outs-listed g.Z.Streams.flow w c.loop.machine_seats.machine c.args.station.now
    (subst (λ m. IsListed w.wires m (kind_at (frame_of w).kinds m) c.args.station.now) (sym c.loop.invariant.machine) c.requires.listed)
    (machine_at (g.H.Host.machines c.pass_chosen-stepped.new.host) c.args.station.now.thread) c.pass_chosen-stepped.ensures.machine_seats.machine

pub returns-then-stepped : goal.returns-then-stepped
returns-then-stepped g c =
    let w = g.E.Era.start in
    let inv = c.loop.invariant in
    let station = c.args.station.now in
    let done = c.pass_chosen-stepped.ensures in
    let new = g.H.Host.machines c.pass_chosen-stepped.new.host in
    record {
      machine = done.machine ∙ inv.machine;
      machine_seats = subst (λ m. HasSeatsAt g.L.Link.takes_from g.L.Link.puts_into g.L.Link.taking g.L.Link.putting g.Z.Streams.flow w c.args.links.now m station new c.pass_chosen-stepped.new.machine_seats) inv.machine done.machine_seats;
      alone = subst (λ hosts. new ≡ slice_set hosts station.thread (machine_at new station.thread)) inv.same done.alone;
      went_on = subst (λ hosts. MachineWentOn (frame_of w) c.args.machine_seats.now.machine c.args.upto (machine_at hosts station.thread) (machine_at new station.thread)) inv.same
          (subst (λ m. MachineWentOn (frame_of w) m c.args.upto (machine_at (g.H.Host.machines c.loop.host) station.thread) (machine_at new station.thread)) inv.machine done.went_on);
      stepped = subst (λ hosts. StepsDone hosts station.thread new c.pass_chosen-stepped.result) inv.same done.stepped;
    }

pub returns-then-is_past : goal.returns-then-is_past
returns-then-is_past g c =
    let w = g.E.Era.start in
    let inv = c.loop.invariant in
    let station = c.args.station.now in
    let done = c.pass_chosen-stepped.ensures in
    let new = g.H.Host.machines c.pass_chosen-stepped.new.host in
    record {
      machine = done.machine ∙ inv.machine;
      machine_seats = subst (λ m. HasSeatsAt g.L.Link.takes_from g.L.Link.puts_into g.L.Link.taking g.L.Link.putting g.Z.Streams.flow w c.args.links.now m station new c.pass_chosen-stepped.new.machine_seats) inv.machine done.machine_seats;
      alone = subst (λ hosts. new ≡ slice_set hosts station.thread (machine_at new station.thread)) inv.same done.alone;
      went_on = subst (λ hosts. MachineWentOn (frame_of w) c.args.machine_seats.now.machine c.args.upto (machine_at hosts station.thread) (machine_at new station.thread)) inv.same
          (subst (λ m. MachineWentOn (frame_of w) m c.args.upto (machine_at (g.H.Host.machines c.loop.host) station.thread) (machine_at new station.thread)) inv.machine done.went_on);
      stepped = nothing-done (g.H.Host.machines c.loop.host) new station.thread c.pass_chosen-stepped.result c.if-stepped.false done.stepped ∙ inv.same;
    }

pub loop-preserved : goal.loop-preserved
loop-preserved g c =
    let inv = c.loop.invariant in
    let done = c.pass_chosen-stepped.ensures in
    let new = g.H.Host.machines c.pass_chosen-stepped.new.host in
    record {
      machine = done.machine ∙ inv.machine;
      seats = subst (λ m. HasSeatsAt g.L.Link.takes_from g.L.Link.puts_into g.L.Link.taking g.L.Link.putting g.Z.Streams.flow g.E.Era.start c.args.links.now m c.args.station.now new c.pass_chosen-stepped.new.machine_seats) inv.machine done.machine_seats;
      same = nothing-done (g.H.Host.machines c.loop.host) new c.args.station.now.thread c.pass_chosen-stepped.result c.if-stepped.false done.stepped ∙ inv.same;
    }

pub returns : goal.returns
returns g c =
    let w = g.E.Era.start in
    let inv = c.loop.invariant in
    let station = c.args.station.now in
    let old = g.H.Host.machines c.args.host.now in
    let new = g.H.Host.machines c.loop.host in
    record {
      machine = inv.machine;
      machine_seats = inv.seats;
      alone = subst (λ hosts. new ≡ slice_set hosts station.thread (machine_at new station.thread)) inv.same (alone-start new station.thread);
      went_on = subst (λ hosts. MachineWentOn (frame_of w) c.args.machine_seats.now.machine c.args.upto (machine_at hosts station.thread) (machine_at new station.thread)) inv.same (went-nowhere (frame_of w) c.args.machine_seats.now.machine c.args.upto (machine_at new station.thread));
      stepped = inv.same;
    }
