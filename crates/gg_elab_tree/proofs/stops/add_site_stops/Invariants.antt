use Rattle.std.proofs.Common.{◌≡◌, ◌++◌, List, map, take}
use Rattle.gg_elab_tree.specs.IsTreeOf.{Pairwise, HeldStop, site_paths, signal_paths}
use Rattle.gg_elab_tree.specs.inside.TreeParts.{IsAskedFor, stop_at_place, with_stops}
use Rattle.gg_elab_tree.proofs.stops.add_site_stops.Given as goal

abbrev pub invariant-loop-own : goal.invariant-loop-own
invariant-loop-own l =
    ((said : List HeldStop) → l.paths ≡ site_paths l.typed.circuit → l.table.paths ≡ signal_paths l.typed.circuit → Pairwise (IsAskedFor l.typed.circuit) said l.fn.tree.stops → Pairwise (IsAskedFor l.typed.circuit) (said ++ map (stop_at_place l.place) (take l.own-index l.stops)) l.tree.stops)
    × (l.tree ≡ with_stops l.fn.tree l.tree.stops)
