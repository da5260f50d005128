use Rattle.std.proofs.Common.{◌<◌, refl, sym, ◌∙◌, subst}
use Rattle.std.specs.Prelude.{All}
use Rattle.std.proofs.lemmas.List.{length-set}
use Rattle.gg_flat.specs.Line.{value_at}
use Rattle.gg_part.proofs.PlaceLemmas.{ArePlaces-none, ArePlaces-more}
use Rattle.gg_cut_parts.proofs.places.fill.Goals as goal

pub loop-place-init : goal.loop-place-init
loop-place-init c = record { count = refl; written = ArePlaces-none c.args.list.now c.args.table.now.items }

pub loop-place-preserved : goal.loop-place-preserved
loop-place-preserved c =
    let table = c.loop-place.table.items in
    let list = c.args.list.now in
    record {
      count = length-set table (value_at list c.loop-place.place) c.loop-place.place ∙ c.loop-place.invariant.count;
      written = ArePlaces-more list table c.loop-place.place (subst (λ n. All (λ s. s < n) list) (sym c.loop-place.invariant.count) c.requires.below) c.loop-place-test.true c.loop-place.invariant.written;
    }
