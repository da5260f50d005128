use Rattle.std.proofs.Common.{◌≡◌, ◌++◌, map, take}
use Rattle.std.specs.Prelude.{flat_map}
use Rattle.gg_elab_sites.specs.inside.Views.{own_of}
use Rattle.gg_types.specs.inside.Memories.{bank_seen}
use Rattle.gg_elab_sites.specs.Signals.{writer_signals}
use Rattle.gg_elab_sites.proofs.own.add_writers.Given as goal

abbrev pub invariant-loop-port : goal.invariant-loop-port
invariant-loop-port l = map own_of l.signals.items ≡ map own_of l.fn.signals.items ++ flat_map (writer_signals l.memory (bank_seen l.bank)) (map (λ n. n.now) (take l.port-index l.ports))
