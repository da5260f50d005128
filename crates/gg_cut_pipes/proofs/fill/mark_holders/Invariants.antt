use Rattle.gg_cut_pipes.specs.inside.Tables.{AreHolding}
use Rattle.gg_cut_pipes.proofs.fill.mark_holders.Given as goal

abbrev pub invariant-loop-place : goal.invariant-loop-place
invariant-loop-place l = AreHolding l.one l.makers l.place l.initial.holders l.holders
