use Rattle.std.proofs.Common.{map, take}
use Rattle.gg_elab_sites.specs.inside.Views.{held_of, site_of, IsPlaceIn}
use Rattle.std.specs.Prelude.{All}
use Rattle.gg_elab_sites.proofs.SiteLemmas.{Grown}
use Rattle.gg_elab_sites.proofs.sites.+add_site.Given as goal

abbrev pub decreases-add_site : goal.decreases-add_site
decreases-add_site l = l.levels

abbrev pub invariant-loop-instance : goal.invariant-loop-instance
invariant-loop-instance l = Grown l.typed.circuit.modules l.levels (site_of l.fn.here) (map site_of l.fn.places.items) (map held_of (take l.instance-index l.instances)) (map site_of l.places.items) × (All (IsPlaceIn l.typed.circuit.modules) l.fn.places.items → All (IsPlaceIn l.typed.circuit.modules) l.places.items)
