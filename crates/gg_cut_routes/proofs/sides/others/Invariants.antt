use Rattle.std.proofs.Common.{◌≡◌, replicate}
use Rattle.gg_cut_routes.specs.declared.sides.Side.TheVariants.{Other}
use Rattle.gg_cut_routes.proofs.sides.others.Given as goal

abbrev pub invariant-loop : goal.invariant-loop
invariant-loop l = l.sides.items ≡ replicate l.counter Other
