use Rattle.std.proofs.Common.{◌≡◌, take}
use Rattle.gg_flat.specs.Line.{value_at}
use Rattle.gg_part.specs.inside.Local.{own_writers}
use Rattle.gg_part.proofs.rename.own_writers.Given as goal

abbrev pub invariant-loop-place : goal.invariant-loop-place
invariant-loop-place l = l.own.items ≡ own_writers (value_at l.by.signals.now) l.ports l.first (take l.place l.writers)
