use Rattle.std.proofs.Common.{arith}
use Rattle.gg_workers.specs.Work.{IsLater}
use Rattle.gg_workers.proofs.CapLemmas.{on-ok, is-capped}
use Rattle.gg_workers.proofs.run.work.Goals as goal
use Rattle.gg_workers.proofs.run.work.Goals.{then-upto-end, else-upto-end}

pub returns-clause-later : goal.returns-clause-later
returns-clause-later g c some = on-ok c.run_up.result (λ new. IsLater g.Z.Streams.flow c.if-upto-end.bound c.args.net new) (λ new. IsLater g.Z.Streams.flow c.args.upto c.args.net new)
    (λ new is. elim c.if-upto-end.branch [
      | then-upto-end w ↦ is-capped g.Z.Streams.flow c.if-upto-end.bound c.args.upto c.args.net new (omega (arith, w.bound-is, w.if-upto-end)) (λ n low less. omega (arith, w.bound-is, w.if-upto-end, low, less, c.end-end.ensures)) is
      | else-upto-end w ↦ is-capped g.Z.Streams.flow c.if-upto-end.bound c.args.upto c.args.net new (omega (arith, w.bound-is, w.if-upto-end)) (λ n low less. omega (arith, w.bound-is, w.if-upto-end, low, less, c.end-end.ensures)) is
    ])
    c.run_up.ensures.later
