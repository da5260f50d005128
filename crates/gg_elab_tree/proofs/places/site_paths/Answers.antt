use Rattle.std.proofs.Common.{[], subst₂, arith}
use Rattle.std.specs.Prelude.{Contains}
use Rattle.gg_elab_sites.specs.declared.sites.Place.{Place}
use Rattle.gg_elab_sites.proofs.FreshLemmas.{next-new}
use Rattle.gg_elab_tree.proofs.places.site_paths.Goals as goal

pub add_path-requires : goal.add_path-requires
add_path-requires c = record {
  fresh = λ h.
      next-new (λ (p : Place). p.path) [] c.args.places.now c.loop-place.place-index c.place-item.result c.requires.distinct (omega arith) c.place-item.is
      (subst₂ Contains c.loop-place.invariant c.in_ok-copied.ensures h);
}
