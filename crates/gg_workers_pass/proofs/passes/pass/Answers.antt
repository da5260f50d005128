use Rattle.std.proofs.Common.{subst, arith}
use Rattle.gg_node.specs.Machine.{machine_at}
use Rattle.gg_net.specs.Network.{frame_of}
use Rattle.gg_workers_pass.specs.declared.choice.Chosen.{Chosen}
use Rattle.gg_workers_pass.specs.inside.Pass.{ChosenDoneAt, KnownDone}
use Rattle.gg_workers_pass.proofs.PassLemmas.{all-done}
use Rattle.gg_workers_pass.proofs.EventLemmas.{events-done}
use Rattle.gg_workers_pass.proofs.passes.pass.Goals as goal

pub returns : goal.returns
returns g c =
    let w = g.E.Era.start in
    let station = c.args.station.now in
    let seats = c.args.machine_seats.now in
    let old = machine_at (g.H.Host.machines c.args.host.now) station.thread in
    let new = machine_at (g.H.Host.machines c.pass_chosen.new.host) station.thread in
    let done : KnownDone g.L.Link.taking g.L.Link.putting (frame_of w) c.args.upto station.ins station.outs old seats.takes.items seats.puts.items new =
    all-done g.L.Link.taking g.L.Link.putting (frame_of w) c.args.upto station.ins station.outs old seats.takes.items seats.puts.items new
    (omega (arith, c.requires.listed.ins, c.requires.listed.few.0)) (omega (arith, c.requires.listed.outs, c.requires.listed.few.1))
    (subst (λ (chosen : Chosen). ChosenDoneAt g.L.Link.taking g.L.Link.putting (frame_of w) c.args.upto chosen station (g.H.Host.machines c.args.host.now) seats (g.H.Host.machines c.pass_chosen.new.host)) c.all.ensures c.pass_chosen.ensures.done) in
    record {
      machine = c.pass_chosen.ensures.machine;
      machine_seats = c.pass_chosen.ensures.machine_seats;
      alone = c.pass_chosen.ensures.alone;
      went_on = c.pass_chosen.ensures.went_on;
      done = done;
      first = λ fresh. events-done g.L.Link.takes_from g.L.Link.puts_into g.L.Link.taking g.L.Link.putting g.Z.Streams.flow w c.requires.kept c.args.links.now seats.machine station c.requires.listed c.args.upto old seats.takes.items seats.puts.items c.requires.machine_seats fresh new done;
      stepped = c.pass_chosen.ensures.stepped;
    }
