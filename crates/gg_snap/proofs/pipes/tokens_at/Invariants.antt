use Rattle.std.proofs.Common.{◌≡◌, map, take}
use Rattle.gg_flat.specs.Line.{value_at}
use Rattle.gg_snap.proofs.pipes.tokens_at.Given as goal

abbrev pub invariant-loop-channel : goal.invariant-loop-channel
invariant-loop-channel l = l.tokens.items ≡ map (λ channel. value_at l.pipes (value_at l.numbers channel.signal)) (take l.channel-index l.channels)
