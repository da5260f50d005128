use Rattle.std.proofs.Common.{◌≡◌, ◌++◌, map, take}
use Rattle.gg_elab_sites.specs.Flat.{stop_paths}
use Rattle.gg_elab_sites.specs.IsFlat.{number_of}
use Rattle.gg_elab_sites.specs.inside.Views.{site_of}
use Rattle.gg_elab.proofs.ports.add_stops.Given as goal

abbrev pub invariant-loop-place : goal.invariant-loop-place
invariant-loop-place l = l.piece ≡ record l.fn.piece { outs = l.fn.piece.outs ++ map (number_of l.paths) (stop_paths l._typed.circuit.modules (map site_of (take l.place-index l.places))) }
