use Rattle.std.proofs.Common.{◌≡◌, Some, true, false, option_copied, slice_set, if◌then◌else◌, sym, ap, ◌∙◌}
use Rattle.gg_types.specs.Clocks.{is_followed}
use Rattle.gg_bits.specs.Lists.{find_word}
use Rattle.gg_types.specs.inside.Places.{next_at, set_next, place_in}
use Rattle.gg_types.proofs.PlaceLemmas.{placed-way}
use Rattle.gg_types_rules.proofs.clocks.lead.Goals as goal

pub returns-then-is_followed : goal.returns-then-is_followed
returns-then-is_followed c =
    let ways = c.args.ways.now in
    let name = c.args.name.now in
    let next = c.args.next.now.items in
    let place = c.in-Some.place in
    let e : place_in name ways ≡ Some place = sym c.place.ensures.place ∙ c.in-Some.is in
    let f : is_followed (find_word name ways) ≡ true =
    ap is_followed (placed-way name ways place e ∙ sym c.way_at.ensures) ∙ sym c.is_followed.ensures ∙ c.if-is_followed.true in
    ap (slice_set next place) c.place_or.ensures
    ∙ sym (ap (set_next ways next (name, option_copied c.args.to)) e
    ∙ ap (λ b. if b then slice_set next place (next_at ways place (option_copied c.args.to)) else next) f)

pub returns-else-is_followed : goal.returns-else-is_followed
returns-else-is_followed c =
    let ways = c.args.ways.now in
    let name = c.args.name.now in
    let next = c.args.next.now.items in
    let place = c.in-Some.place in
    let e : place_in name ways ≡ Some place = sym c.place.ensures.place ∙ c.in-Some.is in
    let f : is_followed (find_word name ways) ≡ false =
    ap is_followed (placed-way name ways place e ∙ sym c.way_at.ensures) ∙ sym c.is_followed.ensures ∙ c.if-is_followed.false in
    sym (ap (set_next ways next (name, option_copied c.args.to)) e
    ∙ ap (λ b. if b then slice_set next place (next_at ways place (option_copied c.args.to)) else next) f)
