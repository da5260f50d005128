use Rattle.std.proofs.Common.{◌≡◌, ◌++◌, map, take}
use Rattle.gg_bits.specs.Shape.{shape}
use Rattle.gg_flat_tree.specs.Tree.{joined}
use Rattle.gg_elab_sites.proofs.table.add_signals.Given as goal

abbrev pub invariant-loop-signal : goal.invariant-loop-signal
invariant-loop-signal l =
    (l.table.paths ≡ l.fn.table.paths ++ map (λ s. joined l.path s.name) (take l.signal-index l.signals))
    × (map (λ t. shape t) l.table.types.items ≡ map (λ t. shape t) l.fn.table.types.items ++ map (λ s. shape s.ty) (take l.signal-index l.signals))
    × (l.table.memories ≡ l.fn.table.memories)
