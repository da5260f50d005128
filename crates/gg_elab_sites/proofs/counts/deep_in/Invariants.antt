use Rattle.std.proofs.Common.{◌≡◌, drop}
use Rattle.gg_elab_sites.specs.Counts.{deep_in}
use Rattle.gg_elab_sites.proofs.counts.deep_in.Given as goal

-- the first memory that is too deep is among the statements that are left, if there is one at all
abbrev pub invariant-loop-statement : goal.invariant-loop-statement
invariant-loop-statement l = deep_in l.statements ≡ deep_in (drop l.statement-index l.statements)
