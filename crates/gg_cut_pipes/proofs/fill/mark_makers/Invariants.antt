use Rattle.std.proofs.Common.{map}
use Rattle.gg_cut_pipes.specs.inside.Tables.{IsFilled}
use Rattle.gg_cut_pipes.proofs.fill.mark_makers.Given as goal

abbrev pub invariant-loop-place : goal.invariant-loop-place
invariant-loop-place l = IsFilled (map (λ w. w.signal) l.wires) (map (λ w. w.producer) l.wires) l.place l.initial.makers l.makers
