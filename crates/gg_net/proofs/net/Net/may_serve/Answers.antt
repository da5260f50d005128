use Rattle.std.proofs.Common.{arith}
use Rattle.gg_net.specs.declared.event.Event.TheVariants.{Serve}
use Rattle.gg_net.proofs.TableLemmas.{serve-can}
use Rattle.gg_net.proofs.BelowLemmas.{not-so, flagged}
use Rattle.gg_net.proofs.net.Net.may_serve.Goals as goal

pub returns-then-machine-machines : goal.returns-then-machine-machines
returns-then-machine-machines g c = not-so (λ may. omega (arith, c.if-machine-machines.true, c.machines.ensures, (serve-can c.args.self.now c.kept.ensures.sound.wired c.args.machine c.args.port may.0).there.0))

pub returns-then-cycle : goal.returns-then-cycle
returns-then-cycle g c = not-so (λ may. omega (arith, c.if-cycle.true, c.cycle.ensures, may.1))

pub returns : goal.returns
returns g c =
    let same = flagged c.args.self.now (Serve c.args.machine c.args.port) c.judge_serve.result c.is_ok.result c.is_ok.ensures.value c.judge_serve.ensures in
    (λ yes. (same.0 yes, omega (arith, c.if-cycle.false, c.cycle.ensures)), λ may. same.1 may.0)
