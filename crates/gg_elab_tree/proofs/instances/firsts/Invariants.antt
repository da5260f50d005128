use Rattle.std.proofs.Common.{◌≡◌}
use Rattle.gg_elab_tree.specs.inside.TreeParts.{signals_to}
use Rattle.gg_elab_tree.proofs.TreePartLemmas.{TellsFirsts}
use Rattle.gg_elab_tree.proofs.instances.firsts.Given as goal

abbrev pub invariant-loop-place : goal.invariant-loop-place
invariant-loop-place l = TellsFirsts l._typed.circuit l.places l.place-index l.firsts.items × (l.next ≡ signals_to l._typed.circuit l.places l.place-index)
