use Rattle.std.proofs.Common.{◌≡◌, take, map}
use Rattle.gg_cut_routes.specs.inside.Tables.{is_left}
use Rattle.gg_cut_routes.proofs.gone.gone_by.Given as goal

abbrev pub invariant-loop-place : goal.invariant-loop-place
invariant-loop-place l = l.gone.items ≡ map (is_left l.left l.needed) (take l.place l.origins)
