use Rattle.std.proofs.Common.{◌≡◌, drop, length}
use Rattle.gg_snap.specs.inside.Parts.{put}
use Rattle.gg_snap.proofs.text.draft.put_values.Given as goal

abbrev pub invariant-loop-i : goal.invariant-loop-i
invariant-loop-i l = (length l.old ≡ length l.initial.old) × (put l.old (drop l.i l.places) (drop l.i l.values) ≡ put l.initial.old l.places l.values)
