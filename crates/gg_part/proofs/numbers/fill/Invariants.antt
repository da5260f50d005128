use Rattle.std.proofs.Common.{◌≡◌, length}
use Rattle.gg_part.specs.inside.Numbers.{ArePlaces}
use Rattle.gg_part.proofs.numbers.fill.Given as goal

abbrev pub invariant-loop-place : goal.invariant-loop-place
invariant-loop-place l =
    record {
      count : length l.places ≡ length l.initial.places;
      written : ArePlaces l.items l.place l.places;
    }
