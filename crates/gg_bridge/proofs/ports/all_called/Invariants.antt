use Rattle.std.proofs.Common.{◌≡◌, map, take}
use Rattle.gg_bridge.specs.Ports.{first_called}
use Rattle.gg_bridge.proofs.ports.all_called.Given as goal

abbrev pub invariant-loop-name : goal.invariant-loop-name
invariant-loop-name l = l.called.items ≡ map (λ name. first_called l.piece name l.signals) (take l.name-index l.names)
