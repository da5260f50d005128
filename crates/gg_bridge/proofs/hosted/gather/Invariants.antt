use Rattle.std.proofs.Common.{◌≡◌, ◌<◌, ℕ, length}
use Rattle.gg_flat.specs.Line.{value_at}
use Rattle.gg_node.specs.Machine.{latch_at, latched_value}
use Rattle.gg_bridge.proofs.hosted.gather.Given as goal

abbrev pub invariant-loop-i : goal.invariant-loop-i
invariant-loop-i l = record {
  count : length l.seen.items ≡ length l.initial.seen.items;
  put : (k : ℕ) → k < l.i → value_at l.seen.items (value_at l.ins k) ≡ latched_value (latch_at l.latches k);
}
