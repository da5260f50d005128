use Rattle.std.proofs.Common.{◌≡◌, take, map}
use Rattle.std.specs.Prelude.{filter}
use Rattle.gg_cut_routes.specs.inside.Share.{is_past_hub}
use Rattle.gg_cut_routes.proofs.plan.past_hub.Given as goal

abbrev pub invariant-loop-place : goal.invariant-loop-place
invariant-loop-place l = l.past.items ≡ map (λ w. w.signal) (filter is_past_hub (take l.place l.wires))
