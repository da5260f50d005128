use Rattle.std.proofs.Common.{◌≡◌, drop}
use Rattle.gg_cut_plan.specs.Hosts.{least_machine}
use Rattle.gg_cut_machines.proofs.hosts.least_of.Given as goal

abbrev pub invariant-loop-path : goal.invariant-loop-path
invariant-loop-path l = least_machine l.units l.group l.initial.least ≡ least_machine l.units (drop l.path-index l.group) l.least
