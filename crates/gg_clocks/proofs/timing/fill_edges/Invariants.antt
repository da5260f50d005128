use Rattle.std.proofs.Common.{◌≡◌, length, take}
use Rattle.gg_flat.specs.Clock.{edges_at}
use Rattle.gg_clocks.proofs.timing.fill_edges.Given as goal

abbrev pub invariant-loop-k : goal.invariant-loop-k
invariant-loop-k l = (length l.edges ≡ length l.ratios) × (take l.k l.edges ≡ edges_at (take l.k l.ratios) l.b)
