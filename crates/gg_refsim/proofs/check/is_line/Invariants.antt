use Rattle.std.proofs.Common.{ℕ, ◌<◌, map}
use Rattle.gg_bits.specs.Shape.{shape}
use Rattle.gg_flat.specs.Line.{shape_at, shapes_of, op_at, HasShape, HasType}
use Rattle.gg_refsim.proofs.check.is_line.Given as goal

abbrev pub invariant-loop-k : goal.invariant-loop-k
invariant-loop-k l =
    (i : ℕ) → i < l.k → HasShape (HasType (map (λ s. shape s.ty) l.signals)) (shapes_of l.nodes) i (shape_at (shapes_of l.nodes) i) (op_at l.nodes i)
