use Rattle.std.proofs.Common.{◌≡◌, ℕ, ◌≤◌, [], length}
use Rattle.std.specs.Prelude.{slice_index_or}
use Rattle.gg_cut.specs.inside.Made.{ArePut}
use Rattle.gg_cut.proofs.needs.put_all.Given as goal

abbrev pub invariant-loop-place : goal.invariant-loop-place
invariant-loop-place l =
    (length l.lists.items ≡ length l.initial.lists.items)
    × ((k : ℕ) → l.place ≤ k → slice_index_or l.lists.items k [] ≡ slice_index_or l.initial.lists.items k [])
    × ArePut l.ins l.outs l.initial.lists.items l.initial.table.items l.place l.table.items
