use Rattle.std.proofs.Common.{◌≡◌, take, map}
use Rattle.gg_cut.proofs.judged.all_signals.Given as goal

abbrev pub invariant-loop-wire : goal.invariant-loop-wire
invariant-loop-wire l = l.signals.items ≡ map (λ w. w.signal) (take l.wire-index l.wires)
