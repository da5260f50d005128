use Rattle.std.proofs.Common.{sym, ap, ◌∙◌}
use Rattle.gg_cut_plan.specs.declared.plan.Machine.{Machine}
use Rattle.golden_commands.specs.Replay.{port_names}
use Rattle.golden_commands.proofs.NamingLemmas.{named-more}
use Rattle.golden_commands.proofs.naming.add_machines.Goals as goal

pub loop-m-preserved : goal.loop-m-preserved
loop-m-preserved c =
    named-more (λ machine. machine.name) (port_names c.args.tree.now c.args.listed.now) c.args.machines.now c.loop-m.m c.index-machines-m.result c.index-machines-m.result
    c.as_str.result.now c.port_names.result.now c.args.names.now c.loop-m.names c.add_machine.new.self
    c.loop-m-test.true (sym c.index-machines-m.is) (c.as_str.ensures ∙ ap (λ (x : Machine). x.name) (sym c.index-machines-m.is)) c.port_names.ensures c.loop-m.invariant (c.in_ok-add_machine.ensures.ok)
