use Rattle.std.proofs.Common.{◌≡◌, map, take}
use Rattle.gg_elab_sites.specs.Known.{types_of}
use Rattle.gg_elab_sites.specs.Flat.{flat_signals, flat_memories}
use Rattle.gg_elab_sites.specs.inside.Views.{table_signals, site_of}
use Rattle.gg_elab_sites.specs.IsFlat.{signals_of, memory_paths}
use Rattle.gg_elab_sites.proofs.table.table_of.Given as goal

abbrev pub invariant-loop-place : goal.invariant-loop-place
invariant-loop-place l =
    (table_signals l.table ≡ signals_of (flat_signals (types_of l._typed.circuit) l._typed.circuit.modules (map site_of (take l.place-index l.places))))
    × (l.table.memories ≡ memory_paths (flat_memories l._typed.circuit.modules (map site_of (take l.place-index l.places))))
