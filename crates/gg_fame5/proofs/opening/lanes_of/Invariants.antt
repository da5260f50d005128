use Rattle.std.proofs.Common.{◌≡◌, ◌≤◌, length}
use Rattle.std.specs.Prelude.{All}
use Rattle.std.specs.Vec.{vec_capacity}
use Rattle.gg_fame5.specs.inside.Lane.{IsLane}
use Rattle.gg_fame5.proofs.OpeningLemmas.{lanes_to}
use Rattle.gg_fame5.proofs.opening.lanes_of.Given as goal

abbrev pub invariant-loop-state : goal.invariant-loop-state
invariant-loop-state l =
    (l.lanes.items ≡ lanes_to l.program.circuit l.outs l.ratios l.fn.states.items l.cycle (length l.yielded))
    × All (IsLane l.program.circuit) l.lanes.items
    × (length l.outs ≤ vec_capacity l.lanes)
