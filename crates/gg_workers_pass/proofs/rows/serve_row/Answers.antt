use Rattle.std.proofs.Common.{◌<◌, ◌∙◌, refl, sym, subst, true≢false}
use Rattle.std.proofs.lemmas.List.{length-map}
use Rattle.gg_node.specs.Machine.{machine_at}
use Rattle.gg_net.specs.Network.{kind_of}
use Rattle.gg_workers_pass.proofs.RowLemmas.{alone-start}
use Rattle.gg_workers_pass.proofs.ServeLemmas.{serves-start}
use Rattle.gg_workers_pass.proofs.rows.serve_row.Goals as goal

pub returns-then-not-serves : goal.returns-then-not-serves
returns-then-not-serves g c =
    let w = g.E.Era.start in
    let below = subst (λ n. c.args.machine < n) (sym (length-map w.machines kind_of)) c.requires.here in
    record {
      tried = serves-start g.Z.Streams.flow w c.requires.kept c.args.machine below (machine_at (g.H.Host.machines c.args.host.now) c.args.thread) c.requires.own;
      none = λ yes. absurd (true≢false (sym yes ∙ c.if-not-serves.true));
      alone = alone-start (g.H.Host.machines c.args.host.now) c.args.thread;
      done = refl;
    }
