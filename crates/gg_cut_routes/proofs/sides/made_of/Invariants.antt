use Rattle.std.proofs.Common.{◌≡◌, take}
use Rattle.std.specs.Prelude.{filter}
use Rattle.gg_cut_routes.specs.inside.Tables.{side_at, is_makers}
use Rattle.gg_cut_routes.proofs.sides.made_of.Given as goal

abbrev pub invariant-loop-signal : goal.invariant-loop-signal
invariant-loop-signal l = l.made.items ≡ filter (λ s. is_makers (side_at l.sides s)) (take l.signal-index l.globals)
