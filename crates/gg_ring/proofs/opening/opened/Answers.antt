use Rattle.std.proofs.Common.{arith, ap, ◌∙◌, replicate, ◌+◌, ◌*◌, ◌≡◌}
use Rattle.std.proofs.lemmas.List.{get_or-replicate, length-replicate}
use Rattle.gg_ring.proofs.StepLemmas.{opens, splits}
use Rattle.gg_ring.proofs.opening.opened.Goals as goal

pub of_words-requires : goal.of_words-requires
of_words-requires g c =
    let some_place = c.requires.capacity in
    let zeros : c.as_slice.result.now ≡ replicate (2 + 2 * c.args.capacity) 0 = c.as_slice.ensures.value ∙ c.in-Ok.ensures.items_if_clones_equal (λ y e. e) in
    rw (c.from-places.ensures) (rw zeros (opens c.args.capacity (replicate (2 + 2 * c.args.capacity) 0) (omega arith) (length-replicate (2 + 2 * c.args.capacity) 0)
    (get_or-replicate (2 + 2 * c.args.capacity) 0 0 0 (omega arith)) (get_or-replicate (2 + 2 * c.args.capacity) 1 0 0 (omega arith))))

pub split_seat-other-requires : goal.split_seat-other-requires
split_seat-other-requires g c =
    let made = c.in-Ok-of_words.ensures in
    let view = ap (λ m. m.0) made.4 in (
      made.2,
      rw made.0 (rw (c.as_slice.ensures.len, c.in-Ok.ensures.len) (omega arith)),
      splits _ _ c.in-Ok-of_words.seat.me.0 g.K.Chosen.chosen (ap (λ v. v.puts) view) (ap (λ v. v.takes) view) (ap (λ v. v.put) view) (ap (λ v. v.taken) view),
    )
