use Rattle.std.proofs.Common.{◌≡◌, take}
use Rattle.gg_cut_pipes.specs.inside.Tables.{piped_places}
use Rattle.gg_cut_pipes.proofs.fill.places_in.Given as goal

abbrev pub invariant-loop-channel : goal.invariant-loop-channel
invariant-loop-channel l = l.places.items ≡ piped_places (take l.channel-index l.channels)
