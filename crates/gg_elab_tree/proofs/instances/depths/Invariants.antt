use Rattle.std.proofs.Common.{◌≡◌, map, take}
use Rattle.gg_elab_tree.proofs.instances.depths.Given as goal

abbrev pub invariant-loop-place : goal.invariant-loop-place
invariant-loop-place l = l.depths.items ≡ map (λ p. p.depth) (take l.place-index l.places)
