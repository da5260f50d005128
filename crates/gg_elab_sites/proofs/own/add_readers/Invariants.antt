use Rattle.std.proofs.Common.{◌≡◌, ◌++◌, map, drop}
use Rattle.gg_elab_sites.specs.inside.Views.{own_of}
use Rattle.gg_types.specs.inside.Memories.{bank_seen}
use Rattle.gg_elab_sites.specs.Signals.{readers_signals}
use Rattle.gg_elab_sites.proofs.own.add_readers.Given as goal

abbrev pub invariant-loop-port : goal.invariant-loop-port
invariant-loop-port l =
    map own_of l.signals.items ++ readers_signals l.memory (bank_seen l.bank) l.place (map (λ n. n.now) (drop l.port-index l.ports))
    ≡ map own_of l.fn.signals.items ++ readers_signals l.memory (bank_seen l.bank) 0 (map (λ n. n.now) l.ports)
