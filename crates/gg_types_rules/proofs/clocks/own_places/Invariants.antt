use Rattle.std.proofs.Common.{◌≡◌, ℕ, ◌<◌, length, slice_index}
use Rattle.gg_types_rules.proofs.clocks.own_places.Given as goal

abbrev pub invariant-loop-place : goal.invariant-loop-place
invariant-loop-place l = (length l.places.items ≡ l.place) × ((k : ℕ) → k < l.place → slice_index l.places.items k ≡ k)
