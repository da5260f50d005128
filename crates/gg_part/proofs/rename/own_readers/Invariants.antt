use Rattle.std.proofs.Common.{◌≡◌, take}
use Rattle.gg_flat.specs.Line.{value_at}
use Rattle.gg_part.specs.inside.Local.{own_readers}
use Rattle.gg_part.proofs.rename.own_readers.Given as goal

abbrev pub invariant-loop-place : goal.invariant-loop-place
invariant-loop-place l = l.own.items ≡ own_readers (value_at l.by.signals.now) l.ports (take l.place l.readers)
