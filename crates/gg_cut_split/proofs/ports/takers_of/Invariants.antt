use Rattle.std.proofs.Common.{◌≡◌, ℕ, ◌<◌, length}
use Rattle.std.specs.Prelude.{if◌then◌else◌, nat_lt}
use Rattle.gg_flat.specs.Line.{value_at}
use Rattle.gg_cut_split.proofs.ports.takers_of.Given as goal

abbrev pub invariant-loop-place : goal.invariant-loop-place
invariant-loop-place l =
    (length l.takers.items ≡ l.place)
    × ((p : ℕ) → p < l.place → value_at l.takers.items p ≡ (if nat_lt p l.count then value_at l.table.items (value_at l.signals p) else 0))
