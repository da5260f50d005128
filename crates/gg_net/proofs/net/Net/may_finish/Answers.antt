use Rattle.std.proofs.Common.{sym, ◌∙◌, ap, arith}
use Rattle.std.specs.Prelude.{is_some}
use Rattle.gg_node.specs.Machine.{machine_at}
use Rattle.gg_net.proofs.TableLemmas.{empty-is, finish-can}
use Rattle.gg_net.proofs.BelowLemmas.{not-so, not-both, finish-below, below-finish}
use Rattle.gg_net.proofs.net.Net.may_finish.Goals as goal

pub returns-then-machine-machines : goal.returns-then-machine-machines
returns-then-machine-machines g c = not-so (λ may. omega (arith, c.if-machine-machines.true, c.machines.ensures, (finish-can c.args.self.now c.kept.ensures.sound.wired c.args.machine may.0).there))

pub returns-then-cycle : goal.returns-then-cycle
returns-then-cycle g c =
    let x = (machine_at (g.H.Host.machines c.host_and_thread-thread.result.0.now) c.host_and_thread-thread.result.1) in
    let may-be = below-finish c.args.self.now c.kept.ensures.sound.wired c.args.cycle c.requires c.args.machine x c.host_and_thread-thread.ensures.machine in
    not-so (λ may. omega (arith, c.if-cycle.true, c.cycle.ensures, (may-be may).0))

pub returns-then-is_some : goal.returns-then-is_some
returns-then-is_some g c =
    let x = (machine_at (g.H.Host.machines c.host_and_thread-thread.result.0.now) c.host_and_thread-thread.result.1) in
    let may-be = below-finish c.args.self.now c.kept.ensures.sound.wired c.args.cycle c.requires c.args.machine x c.host_and_thread-thread.ensures.machine in
    not-so (λ may. not-both c.is_some.result c.if-is_some.true (c.is_some.ensures ∙ ap is_some (c.due.ensures ∙ (may-be may).1)))

pub returns-then-not-all_fired : goal.returns-then-not-all_fired
returns-then-not-all_fired g c =
    let x = (machine_at (g.H.Host.machines c.host_and_thread-thread.result.0.now) c.host_and_thread-thread.result.1) in
    let may-be = below-finish c.args.self.now c.kept.ensures.sound.wired c.args.cycle c.requires c.args.machine x c.host_and_thread-thread.ensures.machine in
    not-so (λ may. not-both c.all_fired.result (c.all_fired.ensures.1 (may-be may).2) c.if-not-all_fired.true)

pub returns : goal.returns
returns g c =
    let x = (machine_at (g.H.Host.machines c.host_and_thread-thread.result.0.now) c.host_and_thread-thread.result.1) in (
      λ latched.
          finish-below c.args.self.now c.kept.ensures.sound.wired c.args.cycle c.requires c.args.machine x
          (omega (arith, c.if-machine-machines.false, c.machines.ensures)) c.host_and_thread-thread.ensures.machine
          (omega (arith, c.if-cycle.false, c.cycle.ensures))
          (sym c.due.ensures ∙ empty-is c.due.result (sym c.is_some.ensures ∙ c.if-is_some.false))
          (c.all_fired.ensures.0 c.if-not-all_fired.false)
          (c.all_latched.ensures.0 latched),
      λ may. c.all_latched.ensures.1 (below-finish c.args.self.now c.kept.ensures.sound.wired c.args.cycle c.requires c.args.machine x c.host_and_thread-thread.ensures.machine may).3,
    )
