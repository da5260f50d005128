use Rattle.std.proofs.Common.{◌≡◌, map, flat_map, take}
use Rattle.gg_elab_sites.specs.inside.Views.{site_of}
use Rattle.gg_elab_tree.specs.IsTreeOf.{Pairwise, held_stops}
use Rattle.gg_elab_tree.specs.inside.TreeParts.{IsAskedFor, with_stops}
use Rattle.gg_elab_tree.proofs.stops.add_stops.Given as goal

abbrev pub invariant-loop-place : goal.invariant-loop-place
invariant-loop-place l =
    Pairwise (IsAskedFor l.typed.circuit) (flat_map (held_stops l.typed.circuit.modules) (map site_of (take l.place-index l.places))) l.tree.stops
    × (l.tree ≡ with_stops l.fn.tree l.tree.stops)
