use Rattle.gg_cut_routes.proofs.OriginTables.{OriginsTo}
use Rattle.gg_cut_routes.proofs.origins.fill_origins.Given as goal

abbrev pub invariant-loop-place : goal.invariant-loop-place
invariant-loop-place l = OriginsTo l.piece l.order l.sides l.barred l.place l.initial.origins.items l.origins.items
