use Rattle.std.proofs.Common.{◌≡◌, ◌++◌, drop, take}
use Rattle.gg_cut_plan.specs.Channels.{channel_names}
use Rattle.gg_cut_plan.specs.Bridges.{wrong_port}
use Rattle.gg_cut_rules.proofs.bridges.ports_stand.Given as goal

abbrev pub invariant-loop-port : goal.invariant-loop-port
invariant-loop-port l = record {
  wrong : wrong_port (channel_names l.piece l.signals) l.initial.ports l.listed ≡ wrong_port (channel_names l.piece l.signals) l.ports (drop l.port-index l.listed);
  ports : l.ports ≡ l.initial.ports ++ take l.port-index l.listed;
}
