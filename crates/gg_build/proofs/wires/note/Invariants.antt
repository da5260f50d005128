use Rattle.gg_build.proofs.PlaceLemmas.{AreNoted}
use Rattle.gg_build.proofs.wires.note.Given as goal

abbrev pub invariant-loop-place : goal.invariant-loop-place
invariant-loop-place l = AreNoted l.numbers l.place l.fn.places.items l.places.items
