use Rattle.std.proofs.Common.{◌+◌, List, ◌++◌, ◌∷◌, [], map, take, subst, sym, ap, arith}
use Rattle.std.specs.Prelude.{Contains}
use Rattle.std.proofs.lemmas.List.Elements.{All-contains}
use Rattle.gg_flat_tree.specs.declared.tree.StopInstance.{StopInstance}
use Rattle.gg_flat_tree.specs.Tree.{InstanceTree, joined}
use Rattle.gg_elab_sites.specs.declared.stops.OwnStop.{OwnStop}
use Rattle.gg_elab_sites.proofs.FlatLemmas.{seam}
use Rattle.gg_elab_tree.specs.IsTreeOf.{Pairwise, HeldStop}
use Rattle.gg_elab_tree.specs.inside.TreeParts.{IsAskedFor, stop_at_place}
use Rattle.gg_elab_tree.proofs.KeptLemmas.{stops-kept}
use Rattle.gg_elab_tree.proofs.PairwiseLemmas.{Pairwise-push}
use Rattle.gg_elab_tree.proofs.StopPartLemmas.{stop-is-for}
use Rattle.gg_elab_tree.proofs.stops.add_site_stops.Goals as goal

pub loop-own-preserved : goal.loop-own-preserved
loop-own-preserved c =
    let added = c.in_ok-add_stop.ensures.ok in (
      λ said p q h.
          subst (λ (l : List StopInstance). Pairwise (IsAskedFor c.args.typed.now.circuit) (said ++ map (stop_at_place c.args.place.now) (take (c.loop-own.own-index + 1) c.args.stops.now)) l) (sym (ap (λ (t : InstanceTree). t.stops) added))
          (subst (λ (l : List HeldStop). Pairwise (IsAskedFor c.args.typed.now.circuit) l (c.loop-own.tree.stops ++ c.in_ok-made.made ∷ [])) (seam (stop_at_place c.args.place.now) said c.args.stops.now c.loop-own.own-index c.own-item.result (omega arith) c.own-item.is)
          (Pairwise-push (IsAskedFor c.args.typed.now.circuit) (said ++ map (stop_at_place c.args.place.now) (take c.loop-own.own-index c.args.stops.now)) (stop_at_place c.args.place.now c.own-item.result) c.loop-own.tree.stops c.in_ok-made.made (c.loop-own.invariant.0 said p q h)
          (stop-is-for c.args.typed.now.circuit c.args.paths.now c.args.table.now.paths c.args.place.now c.own-item.result c.in_ok-made.made p q c.in_ok-made.ensures))),
      stops-kept c.args.tree.now c.loop-own.tree c.add_stop.new.self (c.loop-own.tree.stops ++ c.in_ok-made.made ∷ []) c.loop-own.invariant.1 added,
    )

pub stop-requires-clause-signal : goal.stop-requires-clause-signal
stop-requires-clause-signal c =
    All-contains (λ (own : OwnStop). Contains c.args.table.now.paths (joined c.args.place.now.path own.name)) c.args.stops.now c.own-item.result c.requires.signals (c.loop-own.own-index, omega arith, sym c.own-item.is)
