use Rattle.std.proofs.Common.{◌≡◌, ◌++◌, drop, length}
use Rattle.gg_elab_sites.specs.inside.Counts.{deep_places}
use Rattle.gg_elab_sites.proofs.counts.own_deep.Given as goal

-- an entry for each module so far: with those of the modules that are left they are the entries of all modules
abbrev pub invariant-loop-module : goal.invariant-loop-module
invariant-loop-module l = (length l.places.items ≡ l.module-index) × (deep_places 0 l.modules ≡ l.places.items ++ deep_places l.module-index (drop l.module-index l.modules))
