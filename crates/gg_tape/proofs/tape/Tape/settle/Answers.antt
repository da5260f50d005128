use Rattle.std.proofs.Common.{◌≡◌, ℕ, ◌+◌, ◌<◌, List, length, set, refl, sym, ◌∙◌, ap, subst, arith}
use Rattle.std.proofs.lemmas.List.{length-map, get_or-map}
use Rattle.gg_bits.specs.Shape.{shape}
use Rattle.gg_flat.specs.Line.{value_at}
use Rattle.gg_flat.specs.Circuit.{driver_at}
use Rattle.gg_flat.proofs.TypedLemmas.{HasSource-from}
use Rattle.gg_order.specs.runs.Room.{HasRoom}
use Rattle.gg_order.proofs.RunsLemmas.SettleLemmas.{Partly, Partly-more, Settled-from_Partly}
use Rattle.gg_flat.specs.declared.piece.Signal.{Signal}
use Rattle.gg_tape.specs.declared.taped.TapedSignal.{TapedSignal}
use Rattle.gg_tape.specs.inside.Cells.{Celled}
use Rattle.gg_tape.specs.inside.Tape.{signals_of}
use Rattle.gg_tape.proofs.TapeLemmas.{room-at, signals-count, with-value}
use Rattle.gg_tape.proofs.tape.Tape.settle.Goals as goal

pub value-value-requires-clause-count : goal.value-value-requires-clause-count
value-value-requires-clause-count c =
    c.loop-place.invariant.0.typed.count ∙ length-map c.args.piece.now.signals (λ (signal : Signal). shape signal.ty)

pub value-value-requires-clause-source : goal.value-value-requires-clause-source
value-value-requires-clause-source c =
    let circuit = c.args.piece.now in
    let order = signals_of c.args.self.now in
    let place = c.loop-place.place in
    let s = value_at order place in
    let lt : place < length order = omega (arith, c.loop-place-test.true, c.len-place-end.ensures, signals-count c.args.self.now) in
    let known = c.requires.order.signals place lt in
    HasSource-from circuit c.args.state.now c.args.inputs.now c.loop-place.cells.values s (driver_at circuit s) c.requires.formed c.requires.state c.requires.inputs c.loop-place.invariant.0.typed refl (c.requires.formed.drivers s known)

pub value-value-requires-clause-room : goal.value-value-requires-clause-room
value-value-requires-clause-room c =
    let circuit = c.args.piece.now in
    let order = signals_of c.args.self.now in
    let place = c.loop-place.place in
    let lt : place < length order = omega (arith, c.loop-place-test.true, c.len-place-end.ensures, signals-count c.args.self.now) in
    room-at circuit c.loop-place.cells.room (value_at order place) (subst (HasRoom circuit) (sym c.loop-place.invariant.1) c.requires.room) (c.requires.order.signals place lt)

pub loop-place-preserved : goal.loop-place-preserved
loop-place-preserved c =
    let circuit = c.args.piece.now in
    let order = signals_of c.args.self.now in
    let place = c.loop-place.place in
    let cells = c.loop-place.cells in
    let v = c.value-value.result in
    let signal = c.index.result.now.signal in
    let all = c.args.self.now.signals.items in
    let many : place < length all = omega (arith, c.loop-place-test.true, c.len-place-end.ensures) in
    let lt : place < length order = omega (arith, many, signals-count c.args.self.now) in
    let after : c.set.new.self ≡ with-value cells signal v = c.set.ensures ∙ ap (λ (x : Celled). with-value x signal v) c.value-value.ensures.same in
    let named : signal ≡ value_at order place =
    ap (λ (x : TapedSignal). x.signal) c.index.ensures ∙ sym (get_or-map (λ (x : TapedSignal). x.signal) all place c.index.result.now 0 many) in
    let values_are : c.set.new.self.values ≡ set cells.values (value_at order place) v = ap (λ (x : Celled). x.values) after ∙ ap (λ s. set cells.values s v) named in
    let more = Partly-more circuit c.args.state.now c.args.inputs.now order place cells.values v c.requires.order lt c.loop-place.invariant.0 c.value-value.ensures.value c.value-value.ensures.fits in (
      subst (λ (xs : List ℕ). Partly circuit c.args.state.now c.args.inputs.now order (place + 1) xs) (sym values_are) more,
      ap (λ (x : Celled). x.room) after ∙ c.loop-place.invariant.1,
    )

pub returns-clause-settled : goal.returns-clause-settled
returns-clause-settled c =
    let order = signals_of c.args.self.now in
    let all : c.loop-place.place ≡ length order = omega (arith, c.loop-place-test.false, c.loop-place.auto.place-end, c.len-place-end.ensures, signals-count c.args.self.now) in
    Settled-from_Partly _ _ _ _ _ c.requires.order (subst (λ i. Partly c.args.piece.now c.args.state.now c.args.inputs.now order i c.loop-place.cells.values) all c.loop-place.invariant.0)
