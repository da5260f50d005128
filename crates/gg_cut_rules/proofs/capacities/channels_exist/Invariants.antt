use Rattle.std.proofs.Common.{◌≡◌, drop}
use Rattle.gg_cut_plan.specs.Channels.{channel_names}
use Rattle.gg_cut_plan.specs.Fault.{unknown_channel}
use Rattle.gg_cut_rules.proofs.capacities.channels_exist.Given as goal

abbrev pub invariant-loop-pair : goal.invariant-loop-pair
invariant-loop-pair l = unknown_channel (channel_names l.piece l.signals) l.capacities ≡ unknown_channel (channel_names l.piece l.signals) (drop l.pair-index l.capacities)
