use Rattle.std.proofs.Common.{◌≡◌, ◌<◌, ◌≤◌, replicate}
use Rattle.std.specs.Vec.{vec_capacity}
use Rattle.gg_flat.specs.State.{IsState, opening}
use Rattle.gg_fame5.proofs.opening.opening_states.Given as goal

abbrev pub invariant-loop-i : goal.invariant-loop-i
invariant-loop-i l = (l.states.items ≡ replicate l._i (opening l.piece)) × (0 < l._i → IsState l.piece (opening l.piece)) × (l.count ≤ vec_capacity l.states)
