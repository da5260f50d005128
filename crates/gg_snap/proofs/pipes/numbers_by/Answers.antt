use Rattle.std.proofs.Common.{◌≡◌, ℕ, ◌+◌, ◌++◌, [], ◌∷◌, length, map, refl, sym, ap, ap₂, ◌∙◌, arith, if◌then◌else◌}
use Rattle.std.specs.List.{range_with_len}
use Rattle.std.proofs.lemmas.List.FromFn.{map-range_with_len_more}
use Rattle.gg_order.specs.Marks.{is_marked}
use Rattle.gg_snap.specs.inside.Gathered.{number_below}
use Rattle.gg_snap.proofs.NumberLemmas.{below-more, below-most}
use Rattle.gg_snap.proofs.pipes.numbers_by.Goals as goal

pub next_number-number-requires : goal.next_number-number-requires
next_number-number-requires c =
    omega (arith, c.loop-place-test.true, c.requires, c.loop-place.invariant.1, below-most (is_marked c.args.marks.now) c.loop-place.place)

pub loop-place-preserved : goal.loop-place-preserved
loop-place-preserved c =
    let f = number_below (is_marked c.args.marks.now) in
    let place = c.loop-place.place in (
      c.in_ok-push.ensures.items ∙ ap₂ (λ l (n : ℕ). l ++ n ∷ []) c.loop-place.invariant.0 c.loop-place.invariant.1 ∙ sym (map-range_with_len_more f 0 place place (omega arith)),
      c.next_number-number.ensures ∙ ap (λ n. if is_marked c.args.marks.now place then n + 1 else n) c.loop-place.invariant.1 ∙ sym (below-more (is_marked c.args.marks.now) place (is_marked c.args.marks.now place) refl),
    )

pub returns : goal.returns
returns c =
    let f = number_below (is_marked c.args.marks.now) in
    let place = c.loop-place.place in
    let high = c.loop-place-test.false in
    let end : place ≡ length c.args.marks.now = omega (arith, high, c.loop-place.auto.place-end) in
    c.in_ok-push-2.ensures.items ∙ ap₂ (λ l (n : ℕ). l ++ n ∷ []) c.loop-place.invariant.0 c.loop-place.invariant.1 ∙ sym (map-range_with_len_more f 0 place place (omega arith)) ∙ ap (λ n. map f (range_with_len 0 (n + 1))) end
