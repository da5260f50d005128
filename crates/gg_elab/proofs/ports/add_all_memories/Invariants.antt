use Rattle.std.proofs.Common.{map, take}
use Rattle.gg_elab_sites.specs.Flat.{flat_memories}
use Rattle.gg_elab_sites.specs.inside.Views.{site_of}
use Rattle.gg_elab.specs.inside.Building.{HasMemories}
use Rattle.gg_elab.proofs.ports.add_all_memories.Given as goal

abbrev pub invariant-loop-place : goal.invariant-loop-place
invariant-loop-place l = HasMemories l.table.paths (flat_memories l.typed.circuit.modules (map site_of (take l.place-index l.places))) l.fn.piece l.piece
