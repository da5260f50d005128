use Rattle.std.proofs.Common.{◌≡◌, ◌++◌, map, take}
use Rattle.gg_flat_tree.specs.Tree.{joined}
use Rattle.gg_elab_sites.specs.IsFlat.{number_of}
use Rattle.gg_elab.proofs.ports.add_site_stops.Given as goal

abbrev pub invariant-loop-stop : goal.invariant-loop-stop
invariant-loop-stop l = l.piece ≡ record l.fn.piece { outs = l.fn.piece.outs ++ map (λ stop. number_of l.paths (joined l.path stop.name)) (take l.stop-index l.stops) }
