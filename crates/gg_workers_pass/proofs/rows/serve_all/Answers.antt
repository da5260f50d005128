use Rattle.std.proofs.Common.{◌<◌, ◌∙◌, length, map, true, sym, ap, subst, arith}
use Rattle.std.proofs.lemmas.List.{length-map}
use Rattle.std.proofs.Math.Bool.{or-true}
use Rattle.gg_node.specs.Machine.{Machine, machine_at}
use Rattle.gg_net.specs.Network.{kind_of, frame_of}
use Rattle.gg_net.specs.inside.Net.{entry_of}
use Rattle.gg_workers_pass.specs.inside.Tries.{ServeTried}
use Rattle.gg_workers_pass.specs.inside.Rows.{ServesTried, StepsDone}
use Rattle.gg_workers_pass.proofs.RowLemmas.{alone-within}
use Rattle.gg_workers_pass.proofs.ServeLemmas.{fields-within, serve-step, serves-left, alone-serve}
use Rattle.gg_workers_pass.proofs.DoneLemmas.{serve-done, done-more}
use Rattle.gg_workers_pass.proofs.rows.serve_all.Goals as goal

pub try_serve-requires-clause-fields : goal.try_serve-requires-clause-fields
try_serve-requires-clause-fields g c κs within =
    let w = g.E.Era.start in
    let below : c.args._machine < length (map kind_of w.machines) = subst (λ n. c.args._machine < n) (sym (length-map w.machines kind_of)) c.requires.here in
    let tried = c.loop-stepped.invariant.tried in
    fields-within g.Z.Streams.flow (frame_of w) c.requires.kept.sound c.args._machine below (machine_at (g.H.Host.machines c.loop-stepped.host) c.args.thread) tried.machine c.args.ports.now
    (c.requires.ports ∙ ap (map entry_of) (sym (ap (λ (z : Machine). z.ports) tried.same)))

pub loop-stepped-smaller : goal.loop-stepped-smaller
loop-stepped-smaller g c =
    let w = g.E.Era.start in
    let below : c.args._machine < length (map kind_of w.machines) = subst (λ n. c.args._machine < n) (sym (length-map w.machines kind_of)) c.requires.here in
    let inv = c.loop-stepped.invariant in
    let first = g.H.Host.machines c.args.host.now in
    let hosts = g.H.Host.machines c.loop-stepped.host in
    let after = g.H.Host.machines c.try_serve.new.host in
    let within = alone-within first hosts c.args.thread c.requires.thread inv.alone in
    let served : ServeTried hosts c.args.thread after true = subst (ServeTried hosts c.args.thread after) c.loop-stepped-test.true c.try_serve.ensures in
    let next : ServesTried g.Z.Streams.flow w c.args._machine (machine_at first c.args.thread) (machine_at after c.args.thread) = serve-step g.Z.Streams.flow w c.requires.kept c.args._machine below (machine_at first c.args.thread) hosts after c.args.thread within c.requires.below inv.tried true served in
    omega (
      arith,
      serves-left hosts after c.args.thread within served,
      next.machine.served,
      ap (λ (z : Machine). length z.ports) next.same,
      ap length c.requires.ports,
      length-map (machine_at first c.args.thread).ports entry_of,
    )

pub loop-stepped-preserved : goal.loop-stepped-preserved
loop-stepped-preserved g c =
    let w = g.E.Era.start in
    let below : c.args._machine < length (map kind_of w.machines) = subst (λ n. c.args._machine < n) (sym (length-map w.machines kind_of)) c.requires.here in
    let inv = c.loop-stepped.invariant in
    let first = g.H.Host.machines c.args.host.now in
    let hosts = g.H.Host.machines c.loop-stepped.host in
    let after = g.H.Host.machines c.try_serve.new.host in
    let within = alone-within first hosts c.args.thread c.requires.thread inv.alone in
    record {
      tried = serve-step g.Z.Streams.flow w c.requires.kept c.args._machine below (machine_at first c.args.thread) hosts after c.args.thread within c.requires.below inv.tried c.try_serve.result c.try_serve.ensures;
      alone = alone-serve first hosts after c.args.thread c.requires.thread inv.alone c.try_serve.result c.try_serve.ensures;
      done =
          let served : StepsDone hosts c.args.thread after true = serve-done hosts after c.args.thread within true (subst (ServeTried hosts c.args.thread after) c.loop-stepped-test.true c.try_serve.ensures) in
          subst (StepsDone first c.args.thread after) (or-true c.loop-stepped.stepped) (done-more first hosts after c.args.thread c.loop-stepped.stepped true inv.done served);
    }
