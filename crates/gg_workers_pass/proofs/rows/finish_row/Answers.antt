use Rattle.std.proofs.Common.{refl, sym, subst, false}
use Rattle.gg_workers_pass.specs.inside.Tries.{FinishTriedIf}
use Rattle.gg_workers_pass.proofs.rows.finish_row.Goals as goal

pub returns-then-not-finishes : goal.returns-then-not-finishes
returns-then-not-finishes g c =
    let hosts = g.H.Host.machines c.args.host.now in
    subst (λ tried. FinishTriedIf tried hosts c.args.thread hosts false) (sym c.if-not-finishes.true) (refl, refl)

pub returns : goal.returns
returns g c = subst (λ tried. FinishTriedIf tried (g.H.Host.machines c.args.host.now) c.args.thread (g.H.Host.machines c.try_finish.new.host) c.try_finish.result) (sym c.if-not-finishes.false) c.try_finish.ensures
