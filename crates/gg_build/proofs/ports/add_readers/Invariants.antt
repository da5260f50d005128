use Rattle.std.proofs.Common.{◌≡◌, ◌++◌, length, map, take}
use Rattle.gg_flat.specs.Served.{by_readers}
use Rattle.gg_memunit.specs.MemoryUnit.{port_of}
use Rattle.gg_net.specs.inside.Net.{entry_of}
use Rattle.gg_build.proofs.ports.add_readers.Given as goal

abbrev pub invariant-loop-place : goal.invariant-loop-place
invariant-loop-place l = l.ports.items ≡ l.fn.ports.items ++ map entry_of (map (port_of (length l.readers)) (by_readers 0 (take l.place l.readers)))
