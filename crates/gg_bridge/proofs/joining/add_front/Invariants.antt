use Rattle.std.proofs.Common.{◌≡◌, take}
use Rattle.gg_flat.specs.Circuit.{no_circuit}
use Rattle.gg_bridge.specs.Joined.{linked}
use Rattle.gg_bits.specs.Lists.{by_number}
use Rattle.gg_bridge.proofs.joining.add_front.Given as goal

abbrev pub invariant-loop-place : goal.invariant-loop-place
invariant-loop-place l = l.piece ≡ record no_circuit { paths = take l.place l.one.paths; signals = by_number (linked l.outs l.drives l.left) 0 (take l.place l.one.signals) }
