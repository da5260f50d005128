use Rattle.std.proofs.Common.{◌≡◌, length, sym, ap, ◌∙◌, None, option_and_then}
use Rattle.serde_json.specs.View.{items_view}
use Rattle.gg_partfile.specs.Shapes.{two}
use Rattle.gg_partfile.proofs.ListSteps.{not-two}
use Rattle.gg_partfile.proofs.shapes.ratio_of.Goals as goal

pub returns-then-items-ne2 : goal.returns-then-items-ne2
returns-then-items-ne2 c =
    let values = c.in_ok-as_array.field-0.now.items in
    let none : two (items_view values) ≡ None = not-two values (λ e. c.if-items-ne2.true (ap (λ l. length l) c.as_slice-items.ensures.value ∙ e)) in
    sym none ∙ ap (option_and_then two) c.in_ok-as_array.ensures
