use Rattle.std.proofs.Common.{◌≡◌, drop}
use Rattle.gg_cut_plan.specs.Bridges.{fit_ports, shapes_at}
use Rattle.gg_cut_rules.proofs.bridges.ports_fit.Given as goal

abbrev pub invariant-loop-i : goal.invariant-loop-i
invariant-loop-i l = fit_ports l.piece l.ports (shapes_at l.model l.signals) ≡ fit_ports l.piece (drop l.i l.ports) (shapes_at l.model (drop l.i l.signals))
