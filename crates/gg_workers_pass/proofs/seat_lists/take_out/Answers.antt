use Rattle.std.proofs.Common.{◌≡◌, ◌+◌, ◌<◌, ◌∙◌, None, Some, suc, length, slice_set, sym, subst, arith}
use Rattle.std.proofs.lemmas.List.{get_or_default}
use Rattle.gg_flat.specs.Line.{value_at}
use Rattle.gg_workers_pass.specs.inside.SeatLists.{seat_at, RowTakenOut}
use Rattle.gg_workers_pass.proofs.SeatListLemmas.{next-within, taken_out-more}
use Rattle.gg_workers_pass.proofs.seat_lists.take_out.Goals as goal

pub loop-channel-preserved : goal.loop-channel-preserved
loop-channel-preserved g c =
    let inv = c.loop-channel.invariant in
    let channels = c.args.channels.now in
    let n = c.loop-channel.channel-index in
    let old = c.args.seats.now.items in
    let seats = c.loop-channel.seats.items in
    let row = c.loop-channel.row.items in
    let seat = c.in-Some.seat in
    let inside = c.loop-channel-test.true in
    let within : value_at channels n < length seats = next-within channels c.requires.once n inside old seats row inv.taken_out c.requires.there in
    let is : seat_at seats (value_at channels n) ≡ Some seat = get_or_default seats (value_at channels n) None c.index_mut.result.now within ∙ sym c.index_mut.ensures.value ∙ sym c.take.ensures.value ∙ c.in-Some.is in
    record {
      taken_out = subst (λ k. RowTakenOut channels k old (slice_set seats (value_at channels n) c.take.new.self) c.push_reserved.new.self.items) {x = suc n} {y = n + 1} (omega arith)
          (subst (λ gone. RowTakenOut channels (suc n) old (slice_set seats (value_at channels n) gone) c.push_reserved.new.self.items) (sym c.take.ensures.after)
          (subst (λ items. RowTakenOut channels (suc n) old (slice_set seats (value_at channels n) None) items) (sym c.push_reserved.ensures.items)
          (taken_out-more channels c.requires.once n inside old seats row inv.taken_out c.requires.there seat is)));
      room = c.push_reserved.ensures.capacity ∙ inv.room;
    }
