use Rattle.std.proofs.Common.{◌≡◌, take}
use Rattle.gg_flat.specs.Ports.{ports_at}
use Rattle.gg_flat.proofs.ports.ports_of.Given as goal

abbrev pub invariant-loop-signal : goal.invariant-loop-signal
invariant-loop-signal l = l.ports.items ≡ ports_at l.piece (take l.signal-index l.signals)
