use Rattle.std.proofs.Common.{rules, ◌+◌, ◌<◌, ◌++◌, [], ◌∷◌, Some, suc, length, slice_set, subst, arith}
use Rattle.std.proofs.lemmas.List.{length_push}
use Rattle.std.proofs.lemmas.Iterator.Adapters.{YieldsList-from_vec}
use Rattle.std.proofs.lemmas.Iterator.Consumers.{YieldsList-turn}
use Rattle.gg_flat.specs.Line.{value_at}
use Rattle.gg_workers_pass.specs.inside.SeatLists.{RowPutBack}
use Rattle.gg_workers_pass.proofs.SeatListLemmas.{put_back-more}
use Rattle.gg_workers_pass.proofs.seat_lists.put_back.Goals as goal

pub loop-seat-preserved : goal.loop-seat-preserved
loop-seat-preserved g c =
    let inv = c.loop-seat.invariant in
    let channels = c.args.channels.now in
    let place = c.loop-seat.place in
    let row = c.loop-seat.yielded in
    let seat = c.in-Some.seat in
    let old = c.args.seats.now.items in
    let seats = c.loop-seat.seats.items in
    let t = YieldsList-turn (YieldsList-from_vec {s = c.into_iter-seat-iterator.result} c.args.row.items (search rules) (search rules)) row c.loop-seat.seat-iterator c.loop-seat.yielded_by c.next.result c.next.new.self seat c.in-Some.is c.next.ensures.steps in
    let inside : place < length channels = omega (arith, t.0, c.requires.long, inv.place) in
    record {
      put_back = subst (λ n. RowPutBack channels n (row ++ seat ∷ []) old (slice_set seats (value_at channels place) (Some seat))) {x = suc place} {y = place + 1} (omega arith)
          (put_back-more channels c.requires.once place inside old seats row seat inv.place (c.requires.within place inside) inv.put_back);
      place = omega (arith, inv.place, length_push row seat);
    }
