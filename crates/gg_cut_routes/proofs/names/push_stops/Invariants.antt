use Rattle.std.proofs.Common.{◌≡◌, ◌++◌, map, take}
use Rattle.gg_cut_routes.proofs.names.push_stops.Given as goal

abbrev pub invariant-loop-stop : goal.invariant-loop-stop
invariant-loop-stop l = l.names.items ≡ l.initial.names.items ++ map (λ stop. stop.signal) (take l.stop-index l.tree.stops)
