use Rattle.std.proofs.Common.{arith, ◌≡◌, ◌%◌, ap, sym, ◌∙◌, refl}
use Rattle.std.proofs.Math.Nat.{mod-lt}
use Rattle.gg_ring.specs.inside.Views.{loaded_high}
use Rattle.std.proofs.Common.{slice_index, Some}
use Rattle.std.proofs.lemmas.Option.{slice_get-get_or}
use Rattle.gg_ring.specs.declared.rule.View.{View}
use Rattle.gg_ring.proofs.StepLemmas.{loads_low, loads_high, stores_head}
use Rattle.gg_ring.specs.inside.Rule.{low, high}
use Rattle.gg_ring.proofs.HalfLemmas.{joined-value}
use Rattle.gg_ring.proofs.ring.Ring.load_value.Goals as goal

pub load-low-requires : goal.load-low-requires
load-low-requires c =
    let link = c.args.self.now in
    let seat = c.args.seat.now in
    let e = seat.counted in
    let at = seat.rests in
    let place = mod-lt seat.takes {m = link.capacity} link.sized.2 in
    let is : seat.place ≡ seat.takes % link.capacity = seat.placed ∙ ap (λ m. seat.takes % m) c.requires.seat.1 in
    let words = link.sized.0 in (
      c.requires.seat.0,
      omega arith,
      rw is (loads_low link.table.shared.key link.table.shared.table_id.slots seat.seat.id seat.takes link.capacity seat.seat.me e.0 c.requires.seat.1 at.1 at.2 (rw (e.0, e.1) c.requires.there)),
    )

pub load-high-requires : goal.load-high-requires
load-high-requires c =
    let link = c.args.self.now in
    let seat = c.args.seat.now in
    let e = seat.counted in
    let at = seat.rests in
    let place = mod-lt seat.takes {m = link.capacity} link.sized.2 in
    let is : seat.place ≡ seat.takes % link.capacity = seat.placed ∙ ap (λ m. seat.takes % m) c.requires.seat.1 in
    let words = link.sized.0 in
    let one = c.load-low.ensures in
    let view = ap (λ m. m.0) one.2.0 in (
      one.0 ∙ c.requires.seat.0,
      omega arith,
      rw is (loads_high link.table.shared.key link.table.shared.table_id.slots c.load-low.new.seat.id seat.takes link.capacity c.load-low.new.seat.me
          (ap (λ v. v.taken) view ∙ e.0) (ap (λ v. v.capacity) view ∙ c.requires.seat.1) (ap (λ v. v.takes) view ∙ at.1) (ap (λ v. v.puts) view ∙ at.2) (rw (view, e.0, e.1) c.requires.there) (ap (λ v. v.loaded) view)),
    )

pub store-requires : goal.store-requires
store-requires c =
    let link = c.args.self.now in
    let seat = c.args.seat.now in
    let e = seat.counted in
    let at = seat.rests in
    let words = link.sized.0 in
    let one = c.load-low.ensures in
    let two = c.load-high.ensures in
    let view = ap (λ m. m.0) two.2.0 ∙ ap (λ v. loaded_high v c.load-high.result) (ap (λ m. m.0) one.2.0) in (
      two.0 ∙ one.0 ∙ c.requires.seat.0,
      omega arith,
      stores_head link.table.shared.key link.table.shared.table_id.slots c.load-high.new.seat.id _ c.load-high.new.seat.me (rw (view, e.0) refl)
          (ap (λ v. v.takes) view ∙ at.1) (ap (λ v. v.puts) view ∙ at.2) (rw (view, e.0, e.1) c.requires.there) (ap (λ v. v.loaded) view),
    )

pub returns-clause-value : goal.returns-clause-value
returns-clause-value c =
    let seat = c.args.seat.now in
    let stream = seat.seat.me.0.stream in
    let e = seat.counted in
    let o = seat.order in
    let one = c.load-low.ensures in
    let two = c.load-high.ensures in
    let view = ap (λ m. m.0) one.2.0 in
    let there = c.requires.there in
    let v = slice_index stream seat.takes in
    let lows : c.load-low.result ≡ low v = one.2.1 ∙ ap (λ k. low (slice_index stream k)) e.0 in
    let highs : c.load-high.result ≡ high v = rw (← e.0, ← ap (λ (u : View). u.taken) view, ← ap (λ (u : View). u.stream) view) two.2.1 in
    slice_get-get_or stream seat.takes 0 (omega arith) ∙ ap Some (sym (joined-value _ _ _ v c.joined.ensures lows highs))
