use Rattle.std.proofs.Common.{◌≡◌, ◌++◌, map, take}
use Rattle.gg_cut_pipes.specs.inside.Tables.{kept_in}
use Rattle.gg_cut_pipes.proofs.made.add_outs.Given as goal

abbrev pub invariant-loop-signal : goal.invariant-loop-signal
invariant-loop-signal l = l.piece ≡ record l.initial.piece { outs = l.initial.piece.outs ++ map (kept_in l.tables) (take l.signal-index l.outs) }
