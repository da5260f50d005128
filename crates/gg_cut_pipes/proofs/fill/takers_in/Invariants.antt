use Rattle.std.proofs.Common.{◌≡◌, take}
use Rattle.gg_cut_pipes.specs.inside.Tables.{piped_takers}
use Rattle.gg_cut_pipes.proofs.fill.takers_in.Given as goal

abbrev pub invariant-loop-channel : goal.invariant-loop-channel
invariant-loop-channel l = l.takers.items ≡ piped_takers (take l.channel-index l.channels)
