use Rattle.std.proofs.Common.{◌≡◌, ℕ, ◌<◌, [], false, length, slice_index_or}
use Rattle.gg_part.specs.inside.Domains.{inner_clocks}
use Rattle.gg_cut_parts.proofs.tables.inner_table.Given as goal

abbrev pub invariant-loop-place : goal.invariant-loop-place
invariant-loop-place l = (length l.clocks.items ≡ l.place) × ((k : ℕ) → k < l.place → slice_index_or l.clocks.items k [] ≡ inner_clocks (λ n. slice_index_or l.homes n false) l.tree k)
