use Rattle.std.proofs.Common.{◌≡◌, map, take}
use Rattle.gg_elab_sites.specs.IsFlat.{writer_of}
use Rattle.gg_elab.specs.inside.Building.{memory_of}
use Rattle.gg_elab.proofs.ports.writers.Given as goal

abbrev pub invariant-loop-port : goal.invariant-loop-port
invariant-loop-port l = l.writers.items ≡ map (λ port. writer_of l.site.table.now.paths (memory_of l.site l.own) port.now) (take l.port-index l.ports)
