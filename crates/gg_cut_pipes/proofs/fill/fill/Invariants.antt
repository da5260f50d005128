use Rattle.gg_cut_pipes.specs.inside.Tables.{IsFilled}
use Rattle.gg_cut_pipes.proofs.fill.fill.Given as goal

abbrev pub invariant-loop-place : goal.invariant-loop-place
invariant-loop-place l = IsFilled l.places l.values l.place l.initial.table l.table
