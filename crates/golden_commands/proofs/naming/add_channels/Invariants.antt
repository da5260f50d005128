use Rattle.std.proofs.Common.{◌≡◌, ◌++◌, map, take}
use Rattle.golden_commands.proofs.naming.add_channels.Given as goal

abbrev pub invariant-loop-channel : goal.invariant-loop-channel
invariant-loop-channel l = l.names ≡ record l.initial.names { channels = l.initial.names.channels ++ map (λ channel. channel.name) (take l.channel-index l.channels) }
