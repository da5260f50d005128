use Rattle.std.proofs.Common.{map, take}
use Rattle.gg_elab_sites.specs.Known.{types_of}
use Rattle.gg_elab_sites.specs.Flat.{flat_signals}
use Rattle.gg_elab_sites.specs.inside.Views.{site_of, table_bindings}
use Rattle.gg_elab.specs.inside.Building.{IsSoFar}
use Rattle.gg_elab.proofs.build.add_sites.Given as goal

abbrev pub invariant-loop-place : goal.invariant-loop-place
invariant-loop-place l = IsSoFar (table_bindings (types_of l.typed.circuit) l.table) (flat_signals (types_of l.typed.circuit) l.typed.circuit.modules (map site_of (take l.place-index l.places))) l.piece l.inputs
