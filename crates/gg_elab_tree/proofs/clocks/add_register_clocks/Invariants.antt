use Rattle.std.proofs.Common.{◌≡◌, ◌++◌, map, take}
use Rattle.gg_elab_sites.specs.Flat.{flat_signals}
use Rattle.gg_elab_sites.specs.Known.{types_of}
use Rattle.gg_elab_sites.specs.inside.Views.{site_of}
use Rattle.gg_elab_tree.specs.IsTreeOf.{clocks_held}
use Rattle.gg_elab_tree.specs.inside.TreeParts.{with_register_clocks}
use Rattle.gg_elab_tree.proofs.clocks.add_register_clocks.Given as goal

abbrev pub invariant-loop-place : goal.invariant-loop-place
invariant-loop-place l =
    l.tree ≡ with_register_clocks l.fn.tree (l.fn.tree.register_clocks ++ clocks_held (flat_signals (types_of l.typed.circuit) l.typed.circuit.modules (map site_of (take l.place-index l.places))))
