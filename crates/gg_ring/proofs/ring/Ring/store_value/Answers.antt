use Rattle.std.proofs.Common.{arith, ap, sym, ◌∙◌, ◌≡◌, ◌%◌, ◌+◌, refl}
use Rattle.std.proofs.Math.Nat.{mod-lt}
use Rattle.std.proofs.lemmas.Option.{get_or_from_slice_get, slice_get_within}
use Rattle.gg_ring.specs.inside.Rule.{low, high}
use Rattle.gg_ring.proofs.StepLemmas.{stores_low, stores_high, stores_tail}
use Rattle.gg_ring.proofs.ring.Ring.store_value.Goals as goal

pub store-requires : goal.store-requires
store-requires c =
    let link = c.args.self.now in
    let seat = c.args.seat.now in
    let e = seat.counted in
    let at = seat.rests in
    let room = c.requires.room in
    let place = mod-lt seat.puts {m = link.capacity} link.sized.2 in
    let is : seat.place ≡ seat.puts % link.capacity = seat.placed ∙ ap (λ m. seat.puts % m) c.requires.seat.1 in
    let words = link.sized.0 in
    let v_is = get_or_from_slice_get seat.seat.me.0.stream seat.puts c.args.value 0 c.requires.value in (
      c.requires.seat.0,
      omega arith,
      rw is (stores_low link.table.shared.key link.table.shared.table_id.slots seat.seat.id seat.puts link.capacity (low c.args.value) seat.seat.me e.0 c.requires.seat.1 at.1 at.2
          (rw (e.0, e.1, c.requires.seat.1) room) (rw (e.0, v_is) refl)),
    )

pub store-requires-2 : goal.store-requires-2
store-requires-2 c =
    let link = c.args.self.now in
    let seat = c.args.seat.now in
    let e = seat.counted in
    let at = seat.rests in
    let room = c.requires.room in
    let place = mod-lt seat.puts {m = link.capacity} link.sized.2 in
    let is : seat.place ≡ seat.puts % link.capacity = seat.placed ∙ ap (λ m. seat.puts % m) c.requires.seat.1 in
    let words = link.sized.0 in
    let v_is = get_or_from_slice_get seat.seat.me.0.stream seat.puts c.args.value 0 c.requires.value in
    let one = c.store.ensures in
    let view = ap (λ m. m.0) one.2 in (
      one.0 ∙ c.requires.seat.0,
      omega arith,
      rw is (stores_high link.table.shared.key link.table.shared.table_id.slots c.store.new.seat.id seat.puts link.capacity (high c.args.value) c.store.new.seat.me
          (ap (λ v. v.put) view ∙ e.0) (ap (λ v. v.capacity) view ∙ c.requires.seat.1) (ap (λ v. v.puts) view ∙ at.1) (ap (λ v. v.takes) view ∙ at.2)
          (rw (view, e.0, e.1, c.requires.seat.1) room) (ap (λ v. v.stored) view) (rw (view, e.0, v_is) refl)),
    )

pub store-requires-3 : goal.store-requires-3
store-requires-3 c =
    let link = c.args.self.now in
    let seat = c.args.seat.now in
    let e = seat.counted in
    let at = seat.rests in
    let room = c.requires.room in
    let words = link.sized.0 in
    let one = c.store.ensures in
    let two = c.store-2.ensures in
    let view = ap (λ m. m.0) two.2 ∙ ap (λ v. Rattle.gg_ring.specs.inside.Views.stored_to v 2) (ap (λ m. m.0) one.2) in
    let more = slice_get_within seat.seat.me.0.stream seat.puts c.args.value c.requires.value in (
      two.0 ∙ one.0 ∙ c.requires.seat.0,
      omega arith,
      stores_tail link.table.shared.key link.table.shared.table_id.slots c.store-2.new.seat.id _ c.store-2.new.seat.me (rw (view, e.0) refl) (ap (λ v. v.puts) view ∙ at.1) (ap (λ v. v.takes) view ∙ at.2)
          (rw (view, e.0, e.1, c.requires.seat.1) room) (ap (λ v. v.stored) view) (rw (view, e.0) more),
    )

pub invariant_of-seat : goal.invariant_of-seat
invariant_of-seat c =
    let seat = c.args.seat.now in
    let e = seat.counted in
    let at = seat.rests in
    let o = seat.order in
    let room = c.requires.room in
    let one = c.store.ensures in
    let two = c.store-2.ensures in
    let three = c.store-3.ensures in
    let view = ap (λ m. m.0) three.2 ∙ ap (λ v. Rattle.gg_ring.specs.inside.Views.has_put v) (ap (λ m. m.0) two.2 ∙ ap (λ v. Rattle.gg_ring.specs.inside.Views.stored_to v 2) (ap (λ m. m.0) one.2)) in
    let more = slice_get_within seat.seat.me.0.stream seat.puts c.args.value c.requires.value in
    record {
      rests = (ap (λ m. m.1) three.2 ∙ ap (λ m. m.1) two.2 ∙ ap (λ m. m.1) one.2 ∙ at.0, ap (λ v. v.puts) view ∙ at.1, ap (λ v. v.takes) view ∙ at.2, ap (λ v. v.stored) view);
      placed = c.behind-seat.ensures ∙ ap (λ m. (seat.puts + 1) % m) (sym c.requires.seat.1 ∙ sym (ap (λ v. v.capacity) view));
      counted = (rw (view, e.0) refl, rw (view, e.1) refl);
      order = (omega arith, rw (view, c.requires.seat.1) (omega arith), omega arith, rw view o.3);
    }
