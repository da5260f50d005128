use Rattle.std.proofs.Common.{◌≡◌, take}
use Rattle.gg_shape.specs.inside.Counted.{count_of}
use Rattle.gg_shape.specs.Memories.{given}
use Rattle.gg_shape.proofs.memories.given_for.Given as goal

abbrev pub invariant-loop-field : goal.invariant-loop-field
invariant-loop-field l = l.found ≡ count_of (given l.key (take l.field-index l.fields))
