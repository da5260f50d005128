use Rattle.std.proofs.Common.{◌≡◌, map, take}
use Rattle.gg_flat_tree.specs.inside.Tree.{no_tree}
use Rattle.gg_elab_tree.specs.IsTreeOf.{AreInstances}
use Rattle.gg_elab_tree.specs.inside.TreeParts.{place_paths, with_instances}
use Rattle.gg_elab_sites.specs.inside.Views.{site_of}
use Rattle.gg_elab_tree.proofs.instances.add_instances.Given as goal

abbrev pub invariant-loop-i : goal.invariant-loop-i
invariant-loop-i l =
    (l.tree.paths ≡ place_paths (take l.i l.places))
    × AreInstances l.typed.circuit 0 (map site_of (take l.i l.places)) l.tree.instances
    × (l.tree ≡ with_instances no_tree l.tree.paths l.tree.instances)
