use Rattle.std.proofs.Common.{◌≡◌, take, map, not}
use Rattle.std.specs.Prelude.{filter}
use Rattle.gg_order.specs.Marks.{is_marked}
use Rattle.gg_cut_routes.specs.inside.Tables.{entry_at, routed_by}
use Rattle.gg_cut_routes.proofs.routed.routed_of.Given as goal

abbrev pub invariant-loop-place : goal.invariant-loop-place
invariant-loop-place l = l.routed.items ≡ map (λ w. routed_by l.sides w (entry_at l.straight w.signal)) (filter (λ w. not (is_marked l.gone w.signal)) (take l.place l.wires))
