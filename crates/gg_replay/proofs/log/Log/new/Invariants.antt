use Rattle.std.proofs.Common.{◌≡◌, map, take}
use Rattle.gg_replay.specs.inside.Log.{opening_log}
use Rattle.gg_replay.proofs.log.Log.new.Given as goal

abbrev pub invariant-loop-wire : goal.invariant-loop-wire
invariant-loop-wire l = map (λ list. list.items) l.lists.items ≡ opening_log (take l.wire-index l.wires)
