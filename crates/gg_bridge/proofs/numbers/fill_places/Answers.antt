use Rattle.std.proofs.Common.{◌+◌, length, take, sym, ◌∙◌, subst}
use Rattle.gg_bridge.specs.inside.Joined.{HasPlaces}
use Rattle.gg_bridge.proofs.PlaceLemmas.{places_kept, places_set}
use Rattle.gg_bridge.proofs.numbers.fill_places.Goals as goal
use Rattle.gg_bridge.proofs.numbers.fill_places.Goals.{then-is_free, else-is_free}

pub loop-place-preserved : goal.loop-place-preserved
loop-place-preserved c =
    let list = c.args.list.now in
    let k = c.loop-place.place in
    let count = length c.args.places.now in
    elim c.if-is_free.branch [
      | then-is_free w ↦
          subst (HasPlaces (take (k + 1) list) count) (sym w.places-is) (places_set list count k c.loop-place.places c.loop-place.invariant c.loop-place-test.true (sym c.is_free.ensures ∙ w.if-is_free.true))
      | else-is_free w ↦
          subst (HasPlaces (take (k + 1) list) count) (sym w.places-is) (places_kept list count k c.loop-place.places c.loop-place.invariant c.loop-place-test.true (sym c.is_free.ensures ∙ w.if-is_free.false))
    ]
