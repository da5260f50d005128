use Rattle.std.proofs.Common.{◌<◌, refl, sym, ◌∙◌, subst}
use Rattle.std.specs.Prelude.{All}
use Rattle.std.proofs.lemmas.List.{length-set}
use Rattle.gg_flat.specs.Line.{value_at}
use Rattle.gg_part.proofs.PlaceLemmas.{ArePlaces-none, ArePlaces-more}
use Rattle.gg_part.proofs.numbers.fill.Goals as goal

pub loop-place-init : goal.loop-place-init
loop-place-init c = record { count = refl; written = ArePlaces-none c.args.items.now c.args.places.now }

pub loop-place-preserved : goal.loop-place-preserved
loop-place-preserved c =
    let places = c.loop-place.places in
    let items = c.args.items.now in
    record {
      count = length-set places (value_at items c.loop-place.place) c.loop-place.place ∙ c.loop-place.invariant.count;
      written =
          ArePlaces-more items places c.loop-place.place (subst (λ n. All (λ s. s < n) items) (sym c.loop-place.invariant.count) c.requires.below) c.loop-place-test.true
          c.loop-place.invariant.written;
    }
