use Rattle.std.proofs.Common.{length, take}
use Rattle.gg_bridge.specs.inside.Joined.{HasPlaces}
use Rattle.gg_bridge.proofs.numbers.fill_places.Given as goal

abbrev pub invariant-loop-place : goal.invariant-loop-place
invariant-loop-place l = HasPlaces (take l.place l.list) (length l.initial.places) l.places
