use Rattle.std.proofs.Common.{◌≡◌, ◌<◌, ◌∙◌, length, map, sym, ap, subst}
use Rattle.std.specs.Prelude.{All}
use Rattle.std.proofs.lemmas.List.{length-replicate}
use Rattle.gg_flat.specs.Line.{value_at}
use Rattle.gg_cut_parts.proofs.PlaceLemmas.{known-below, found-within, found-are}
use Rattle.gg_cut_parts.proofs.places.found_at.Goals as goal

pub picked-requires : goal.picked-requires
picked-requires c =
    let count : length c.deref.result.now ≡ c.args.count = ap length c.deref.ensures.value ∙ c.fill.ensures.count ∙ ap length c.in_ok-table.ensures ∙ length-replicate c.args.count 0 in
    known-below c.args.list.now c.args.numbers.now (length c.deref.result.now) (subst (λ n. All (λ s. s < n) c.args.list.now) (sym count) c.requires.below) c.requires.known

pub returns-clause-within : goal.returns-clause-within
returns-clause-within c =
    found-within c.args.list.now c.fill.new.table.items c.args.numbers.now c.in_ok-places.places.items c.fill.ensures.places c.requires.known
    (c.in_ok-places.ensures {u = tt} ∙ ap (λ l. map (value_at l) c.args.numbers.now) c.deref.ensures.value)

pub returns-clause-found : goal.returns-clause-found
returns-clause-found c =
    found-are c.args.list.now c.fill.new.table.items c.args.numbers.now c.in_ok-places.places.items c.fill.ensures.places c.requires.known
    (c.in_ok-places.ensures {u = tt} ∙ ap (λ l. map (value_at l) c.args.numbers.now) c.deref.ensures.value)
