use Rattle.std.proofs.Common.{arith, ap, ◌∙◌}
use Rattle.gg_ring.proofs.StepLemmas.{joins, splits_again}
use Rattle.gg_ring.proofs.ring.Ring.settle.Goals as goal

pub join_seat-requires : goal.join_seat-requires
join_seat-requires c =
    let sized = c.args.self.now.sized in (
      c.requires.seats.0.0,
      c.requires.seats.1.0,
      c.args.take.rests.0,
      omega arith,
      joins _ _ c.args.put.seat.me.0 _ c.args.take.seat.me.0 c.args.put.rests.1 c.args.take.rests.1,
    )

pub split_seat-other-requires : goal.split_seat-other-requires
split_seat-other-requires c =
    let sized = c.args.self.now.sized in
    let view = ap (λ m. m.0) c.join_seat.ensures.2 in (
      c.join_seat.ensures.0 ∙ c.requires.seats.0.0,
      omega arith,
      splits_again _ _ c.join_seat.new.seat.me.0 (ap (λ v. v.puts) view) (ap (λ v. v.takes) view),
    )
