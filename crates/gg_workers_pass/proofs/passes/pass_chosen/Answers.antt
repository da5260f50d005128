use Rattle.std.proofs.Common.{◌∙◌, ◌||◌, ap, ◌≡◌, ◌<◌, length, map, slice_set, sym, subst, refl, arith}
use Rattle.std.specs.Prelude.{max, min}
use Rattle.std.proofs.lemmas.List.{length-map}
use Rattle.gg_node.specs.Machine.{Machine, machine_at}
use Rattle.gg_net.specs.Network.{kind_of}
use Rattle.gg_workers_pass.specs.inside.Rows.{LatchesTried, FiresTried, StepsDone}
use Rattle.gg_workers_pass.proofs.RowLemmas.{alone-more, alone-within}
use Rattle.gg_workers_pass.proofs.ServeLemmas.{may-finish, alone-finish}
use Rattle.gg_workers_pass.proofs.PassLemmas.{are-ins, are-outs, pass-machine_seats, pass-went, pass-done}
use Rattle.gg_workers_pass.proofs.DoneLemmas.{finish-done, done-more}
use Rattle.gg_workers_pass.proofs.passes.pass_chosen.Goals as goal

pub latch_row-latched-requires-clause-below : goal.latch_row-latched-requires-clause-below
latch_row-latched-requires-clause-below g c κs within = omega (arith, c.if-cycle-upto.false, c.cycle.ensures, c.requires.here.2)

pub fire_row-fired-requires-clause-below : goal.fire_row-fired-requires-clause-below
fire_row-fired-requires-clause-below g c κs within = omega (arith, c.if-cycle-upto.false, c.cycle.ensures, c.requires.here.2, ap (λ (z : Machine). z.cycle) c.latch_row-latched.ensures.tried.same)

pub serve_row-served-requires-clause-below : goal.serve_row-served-requires-clause-below
serve_row-served-requires-clause-below g c κs within = omega (arith, c.if-cycle-upto.false, c.cycle.ensures, c.requires.here.2, ap (λ (z : Machine). z.cycle) c.latch_row-latched.ensures.tried.same, ap (λ (z : Machine). z.cycle) c.fire_row-fired.ensures.tried.same)

pub finish_row-finished-requires-clause-may : goal.finish_row-finished-requires-clause-may
finish_row-finished-requires-clause-may g c κs within =
    let w = g.E.Era.start in
    let below : c.args.machine_seats.now.machine < length (map kind_of w.machines) = subst (λ n. c.args.machine_seats.now.machine < n) (sym (length-map w.machines kind_of)) c.requires.here.1 in
    let tried = c.serve_row-served.ensures.tried in
    may-finish g.Z.Streams.flow w c.requires.kept c.args.machine_seats.now.machine below (machine_at (g.H.Host.machines c.serve_row-served.new.host) c.args.station.now.thread) tried.machine
    (omega (arith, c.if-cycle-upto.false, c.cycle.ensures, c.requires.here.2, ap (λ (z : Machine). z.cycle) c.latch_row-latched.ensures.tried.same, ap (λ (z : Machine). z.cycle) c.fire_row-fired.ensures.tried.same, ap (λ (z : Machine). z.cycle) tried.same))

pub returns : goal.returns
returns g c =
    let w = g.E.Era.start in
    let flow = g.Z.Streams.flow in
    let m = c.args.machine_seats.now.machine in
    let station = c.args.station.now in
    let thread = station.thread in
    let chosen = c.args.chosen in
    let below : m < length (map kind_of w.machines) = subst (λ n. m < n) (sym (length-map w.machines kind_of)) c.requires.here.1 in
    let first = g.H.Host.machines c.args.host.now in
    let hosts1 = g.H.Host.machines c.latch_row-latched.new.host in
    let hosts2 = g.H.Host.machines c.fire_row-fired.new.host in
    let hosts3 = g.H.Host.machines c.serve_row-served.new.host in
    let after = g.H.Host.machines c.finish_row-finished.new.host in
    let x = machine_at first thread in
    let x1 = machine_at hosts1 thread in
    let x2 = machine_at hosts2 thread in
    let x3 = machine_at hosts3 thread in
    let take_seats1 = c.latch_row-latched.new.seats.items in
    let put_seats1 = c.fire_row-fired.new.seats.items in
    let going : x.cycle < c.args.upto = omega (arith, c.if-cycle-upto.false, c.cycle.ensures) in
    let latches : LatchesTried g.L.Link.takes_from g.L.Link.taking flow w m c.args.links.now station.ins chosen.first_in (max chosen.first_in (min chosen.past_in (length station.ins))) x c.args.machine_seats.now.takes.items x1 take_seats1 =
    subst (λ ins. LatchesTried g.L.Link.takes_from g.L.Link.taking flow w m c.args.links.now ins chosen.first_in (max chosen.first_in (min chosen.past_in (length ins))) x c.args.machine_seats.now.takes.items x1 take_seats1) c.as_slice-ins.ensures c.latch_row-latched.ensures.tried in
    let fires : FiresTried g.L.Link.puts_into g.L.Link.putting flow w m c.args.links.now station.outs chosen.first_out (max chosen.first_out (min chosen.past_out (length station.outs))) x1 c.args.machine_seats.now.puts.items x2 put_seats1 =
    subst (λ outs. FiresTried g.L.Link.puts_into g.L.Link.putting flow w m c.args.links.now outs chosen.first_out (max chosen.first_out (min chosen.past_out (length outs))) x1 c.args.machine_seats.now.puts.items x2 put_seats1) c.as_slice-outs.ensures c.fire_row-fired.ensures.tried in
    let alone2 : hosts2 ≡ slice_set first thread x2 = alone-more first hosts1 hosts2 thread x2 c.requires.thread c.latch_row-latched.ensures.alone c.fire_row-fired.ensures.alone in
    let alone3 : hosts3 ≡ slice_set first thread x3 = alone-more first hosts2 hosts3 thread x3 c.requires.thread alone2 c.serve_row-served.ensures.alone in
    let within : thread < length hosts3 = alone-within first hosts3 thread c.requires.thread alone3 in
    record {
      machine = refl;
      machine_seats = pass-machine_seats g.L.Link.takes_from g.L.Link.puts_into g.L.Link.taking g.L.Link.putting flow w c.requires.kept c.args.links.now m below c.args.upto c.requires.here.2 station.ins station.outs x c.args.machine_seats.now.takes.items c.args.machine_seats.now.puts.items c.requires.machine_seats
          (are-ins flow w m x station c.requires.machine_seats.machine c.requires.listed) (are-outs flow w m x station c.requires.machine_seats.machine c.requires.listed) going chosen x1 take_seats1 latches x2 put_seats1 fires x3 c.serve_row-served.ensures.tried c.serve_row-served.ensures.none hosts3 after thread within refl c.finish_row-finished.result c.finish_row-finished.ensures;
      alone = alone-finish first hosts3 after thread c.requires.thread alone3 chosen.finishes c.finish_row-finished.result c.finish_row-finished.ensures;
      went_on = pass-went g.L.Link.takes_from g.L.Link.puts_into g.L.Link.taking g.L.Link.putting flow w c.requires.kept c.args.links.now m below c.args.upto c.requires.here.2 station.ins station.outs x c.args.machine_seats.now.takes.items c.args.machine_seats.now.puts.items c.requires.machine_seats
          (are-ins flow w m x station c.requires.machine_seats.machine c.requires.listed) (are-outs flow w m x station c.requires.machine_seats.machine c.requires.listed) going chosen x1 take_seats1 latches x2 put_seats1 fires x3 c.serve_row-served.ensures.tried c.serve_row-served.ensures.none hosts3 after thread within refl c.finish_row-finished.result c.finish_row-finished.ensures;
      done = pass-done g.L.Link.takes_from g.L.Link.puts_into g.L.Link.taking g.L.Link.putting flow w c.requires.kept c.args.links.now m below c.args.upto c.requires.here.2 station.ins station.outs x c.args.machine_seats.now.takes.items c.args.machine_seats.now.puts.items c.requires.machine_seats
          (are-ins flow w m x station c.requires.machine_seats.machine c.requires.listed) (are-outs flow w m x station c.requires.machine_seats.machine c.requires.listed) going chosen x1 take_seats1 latches x2 put_seats1 fires x3 c.serve_row-served.ensures.tried c.serve_row-served.ensures.none hosts3 after thread within refl c.finish_row-finished.result c.finish_row-finished.ensures;
      stepped = subst (StepsDone first thread after) (sym (c.either.ensures ∙ ap (λ b. b || c.either-ended.result) c.either-passed.ensures ∙ ap (λ b. (c.latch_row-latched.result || c.fire_row-fired.result) || b) c.either-ended.ensures))
          (done-more first hosts2 after thread (c.latch_row-latched.result || c.fire_row-fired.result) (c.serve_row-served.result || c.finish_row-finished.result)
          (done-more first hosts1 hosts2 thread c.latch_row-latched.result c.fire_row-fired.result c.latch_row-latched.ensures.done c.fire_row-fired.ensures.done)
          (done-more hosts2 hosts3 after thread c.serve_row-served.result c.finish_row-finished.result c.serve_row-served.ensures.done
          (finish-done hosts3 after thread within chosen.finishes c.finish_row-finished.result c.serve_row-served.ensures.tried.machine.served c.finish_row-finished.ensures)));
    }
