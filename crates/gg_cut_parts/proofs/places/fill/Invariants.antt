use Rattle.std.proofs.Common.{◌≡◌, length}
use Rattle.gg_part.specs.inside.Numbers.{ArePlaces}
use Rattle.gg_cut_parts.proofs.places.fill.Given as goal

abbrev pub invariant-loop-place : goal.invariant-loop-place
invariant-loop-place l =
    record {
      count : length l.table.items ≡ length l.initial.table.items;
      written : ArePlaces l.list l.place l.table.items;
    }
