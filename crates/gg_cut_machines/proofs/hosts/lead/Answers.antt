use Rattle.std.proofs.Common.{arith}
use Rattle.gg_flat.specs.Line.{value_at}
use Rattle.gg_cut_machines.proofs.HostLemmas.{led}
use Rattle.gg_cut_machines.proofs.hosts.lead.Goals as goal

pub returns-clause-led : goal.returns-clause-led
returns-clause-led c = λ m lt. led c.args.units.now c.args.group.now m c.len.result c.least_of-least.result (value_at c.args.leaders.now.items m) (value_at c.set_all.new.leaders.items m) (omega (arith, lt, c.len.ensures, c.args.leaders.now.ok.0)) c.least_of-least.ensures (c.set_all.ensures.set m lt)
