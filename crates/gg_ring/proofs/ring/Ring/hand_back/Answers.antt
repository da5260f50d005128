use Rattle.std.specs.Mem.Slots.{slots_items}
use Rattle.gg_link.proofs.StreamLemmas.{one_more, pushed_behind}
use Rattle.gg_ring.proofs.HalfLemmas.{laid_value}
use Rattle.std.proofs.Common.{arith, ap, ◌∙◌, length, ◌<◌, ◌≡◌}
use Rattle.gg_ring.proofs.StepLemmas.{joins, closes}
use Rattle.gg_ring.proofs.ring.Ring.hand_back.Goals as goal

pub join_seat-requires : goal.join_seat-requires
join_seat-requires c =
    let sized = c.args.self.sized in (
      c.requires.seats.0.0,
      c.requires.seats.1.0,
      c.args.take.rests.0,
      omega arith,
      joins _ _ c.args.put.seat.me.0 _ c.args.take.seat.me.0 c.args.put.rests.1 c.args.take.rests.1,
    )

pub returns-clause-counts : goal.returns-clause-counts
returns-clause-counts c =
    let put = c.args.put in
    let take = c.args.take in
    let view = ap (λ m. m.0) c.join_seat.ensures.2 in
    let laid = closes _ _ _ _ c.join_seat.new.seat.me.0 (ap (λ v. v.puts) view) (ap (λ v. v.takes) view) c.close_with-closed.ensures.values.2 in
    let puts : c.join_seat.new.seat.me.0.put ≡ put.puts = ap (λ v. v.put) view ∙ put.counted.0 in
    let takes : c.join_seat.new.seat.me.0.taken ≡ take.takes = ap (λ v. v.taken) view ∙ take.counted.0 in
    let key = c.args.self.sized.1 in
    let same = c.requires.seats.0.1 in
    let a = laid.order in let b = laid.room in
    record { order = omega arith; room = omega arith }

pub loop-k-preserved : goal.loop-k-preserved
loop-k-preserved c =
    let put = c.args.put in
    let take = c.args.take in
    let view = ap (λ m. m.0) c.join_seat.ensures.2 in
    let laid = closes _ _ _ _ c.join_seat.new.seat.me.0 (ap (λ v. v.puts) view) (ap (λ v. v.takes) view) c.close_with-closed.ensures.values.2 in
    let puts : c.join_seat.new.seat.me.0.put ≡ put.puts = ap (λ v. v.put) view ∙ put.counted.0 in
    let takes : c.join_seat.new.seat.me.0.taken ≡ take.takes = ap (λ v. v.taken) view ∙ take.counted.0 in
    let stream : c.join_seat.new.seat.me.0.stream ≡ put.seat.me.0.stream = ap (λ v. v.stream) view in
    let key = c.args.self.sized.1 in
    let from = c.loop-k.auto.k in
    let upto = c.loop-k-test.true in
    let words = c.close_with-closed.result.words in
    let value = laid_value (slots_items words) _ _ _ _ put.seat.me.0.stream c.args.self.capacity c.loop-k.k c.value_at.result laid stream key (omega arith) (omega arith) c.value_at.ensures in
    let inside : c.loop-k.k < length put.seat.me.0.stream = let q = laid.inside in let r = ap length stream in omega arith in
    let more = one_more put.seat.me.0.stream take.takes c.loop-k.k c.value_at.result from inside value in
    let inv = c.loop-k.invariant in
    let pushed = c.push_back_reserved.ensures in (
      pushed_behind _ _ _ _ _ _ pushed.items inv.0 more,
      (let p = pushed.len in let i = inv.1 in omega arith),
      pushed.capacity ∙ inv.2,
    )
