use Rattle.std.proofs.Common.{◌≡◌, map, Some}
use Rattle.std.specs.Vec.{vec_capacity}
use Rattle.gg_workers_pass.proofs.seat_lists.wrap_all.Given as goal

abbrev pub invariant-loop-seat : goal.invariant-loop-seat
invariant-loop-seat g l = (l.into.items ≡ map (λ seat. Some seat) l.yielded) × (vec_capacity l.into ≡ vec_capacity l.initial.into)
