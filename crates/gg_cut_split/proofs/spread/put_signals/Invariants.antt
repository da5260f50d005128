use Rattle.std.proofs.Common.{length, take}
use Rattle.std.specs.Prelude.{filter}
use Rattle.gg_cut_split.specs.inside.Spread.{AreLists, has}
use Rattle.gg_cut_split.proofs.spread.put_signals.Given as goal

abbrev pub invariant-loop-place : goal.invariant-loop-place
invariant-loop-place l = AreLists (λ m. filter (has l.wires l.owners l.channels m) (take l.place l.order)) (length l.initial.lists) l.lists
