use Rattle.std.proofs.Common.{◌≡◌, take}
use Rattle.gg_elab_tree.specs.inside.TreeParts.{place_paths}
use Rattle.gg_elab_tree.proofs.places.site_paths.Given as goal

abbrev pub invariant-loop-place : goal.invariant-loop-place
invariant-loop-place l = l.paths ≡ place_paths (take l.place-index l.places)
