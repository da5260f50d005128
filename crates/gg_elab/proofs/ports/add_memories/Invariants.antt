use Rattle.std.proofs.Common.{◌++◌, List, map, take}
use Rattle.gg_elab_sites.specs.Flat.{FlatMemory}
use Rattle.gg_elab.specs.inside.Building.{HasMemories, memory_of}
use Rattle.gg_elab.proofs.ports.add_memories.Given as goal

abbrev pub invariant-loop-own : goal.invariant-loop-own
invariant-loop-own l = (said : List FlatMemory) → HasMemories l.site.table.now.paths said l.fn.piece l.fn.piece → HasMemories l.site.table.now.paths (said ++ map (memory_of l.site) (take l.own-index l.memories)) l.fn.piece l.piece
