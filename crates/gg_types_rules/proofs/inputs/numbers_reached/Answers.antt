use Rattle.std.proofs.Common.{ℕ, [], ◌∷◌, ◌++◌, None, get_or, slice_index_or, sym, ap, ◌∙◌}
use Rattle.std.proofs.lemmas.List.{map_more}
use Rattle.gg_types_rules.proofs.inputs.numbers_reached.Goals as goal

pub loop-place-preserved : goal.loop-place-preserved
loop-place-preserved c =
    let at = λ (place : ℕ). slice_index_or c.args.numbers.now place None in
    let places = c.args.places.now.items in
    let i = c.loop-place.place-index in
    let same = c.deref-place-items.ensures.value in
    c.in_ok-push.ensures.items
    ∙ ap (λ o. c.loop-place.found.items ++ o ∷ []) (rw same at c.number_at.ensures)
    ∙ ap (λ l. l ++ at (get_or places i 0) ∷ []) c.loop-place.invariant
    ∙ sym (map_more at places i 0 (rw same at c.loop-place-test.true))
