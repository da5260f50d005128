use Rattle.std.proofs.Common.{◌≡◌, map, take}
use Rattle.gg_elab_sites.specs.inside.Views.{held_of}
use Rattle.gg_elab_sites.specs.Sites.{held_by}
use Rattle.gg_elab_sites.proofs.digest.instances.Given as goal

abbrev pub invariant-loop-statement : goal.invariant-loop-statement
invariant-loop-statement l = map held_of l.instances.items ≡ held_by l.circuit.modules (take l.statement-index l.statements)
