use Rattle.std.proofs.Common.{◌≡◌, ◌++◌, List, map, take}
use Rattle.gg_flat_tree.specs.Tree.{joined}
use Rattle.gg_elab_sites.specs.Flat.{FlatSignal, flat_signal}
use Rattle.gg_elab_sites.specs.inside.Views.{site_of, own_of}
use Rattle.gg_elab.specs.inside.Building.{IsSoFarAt}
use Rattle.gg_elab.proofs.build.add_site.Given as goal

abbrev pub invariant-loop-signal : goal.invariant-loop-signal
invariant-loop-signal l =
    (l.piece.paths ≡ l.fn.piece.paths ++ map (λ o. joined l.site.place.now.path o.name) (take l.signal-index l.signals))
    × ((xs : List FlatSignal) → IsSoFarAt l.site xs l.fn.piece l.fn.inputs → IsSoFarAt l.site (xs ++ map (λ o. flat_signal l.site.typed.now.circuit.modules (site_of l.site.place.now) (own_of o)) (take l.signal-index l.signals)) l.piece l.inputs)
