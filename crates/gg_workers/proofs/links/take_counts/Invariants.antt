use Rattle.std.proofs.Common.{◌≡◌, ℕ, ◌<◌, length}
use Rattle.gg_flat.specs.Line.{value_at}
use Rattle.gg_net.specs.Network.{takes}
use Rattle.gg_workers.proofs.links.take_counts.Given as goal

abbrev pub invariant-loop-channel : goal.invariant-loop-channel
invariant-loop-channel g l = (length l.counts.items ≡ l.channel) × ((c : ℕ) → c < l.channel → value_at l.counts.items c ≡ takes l.net c)
