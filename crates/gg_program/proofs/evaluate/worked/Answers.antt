use Rattle.std.proofs.Common.{◌≡◌, ◌≤◌, ℕ, [], refl, sym, subst, arith}
use Rattle.gg_bits.specs.Shape.{Fits}
use Rattle.gg_flat.specs.Circuit.{signal_shapes, driver_at}
use Rattle.gg_flat.specs.Line.{shape_at}
use Rattle.gg_flat.specs.inside.Settled.{HasSource}
use Rattle.gg_flat.specs.Settled.{driver_value}
use Rattle.gg_flat.proofs.TypedLemmas.{HasSource-from}
use Rattle.gg_order.specs.runs.Room.{line_length}
use Rattle.gg_tape.proofs.TapeLemmas.{room-at}
use Rattle.gg_program.specs.Slots.{inputs_in}
use Rattle.gg_program.proofs.EvaluateLemmas.{values-count}
use Rattle.gg_program.proofs.RightLemmas.{inner-source, IsInputs-values}
use Rattle.gg_program.proofs.evaluate.worked.Goals as goal

pub value-requires-clause-place : goal.value-requires-clause-place
value-requires-clause-place g c = omega (arith, c.requires.inner.known, c.requires.whole.numbers.count)

pub value-requires-clause-count : goal.value-requires-clause-count
value-requires-clause-count g c = values-count c.args.piece.now c.args.cells.now.values c.requires.typed

pub value-requires-clause-source : goal.value-requires-clause-source
value-requires-clause-source g c =
    let circuit = c.args.piece.now in
    let values = c.args.cells.now.values in
    let state = c.args.state.now in
    let s = c.args.signal in
    let each = c.requires.whole.numbers.each s c.requires.inner.known in
    let ins = IsInputs-values circuit values c.requires.formed c.requires.typed in
    let from = HasSource-from circuit state (inputs_in circuit values) values s (driver_at circuit s) c.requires.formed c.requires.state ins c.requires.typed refl (c.requires.formed.drivers s c.requires.inner.known) in
    let has = inner-source state (inputs_in circuit values) values (shape_at (signal_shapes circuit) s) (driver_at circuit s) c.requires.inner.inner from in
    subst (λ (t : ℕ). HasSource state [] values (shape_at (signal_shapes circuit) t) (driver_at circuit t)) (sym each) has

pub value-requires-clause-room : goal.value-requires-clause-room
value-requires-clause-room g c =
    let circuit = c.args.piece.now in
    let s = c.args.signal in
    let each = c.requires.whole.numbers.each s c.requires.inner.known in
    subst (λ (t : ℕ). line_length (driver_at circuit t) ≤ c.args.cells.now.room) (sym each) (room-at circuit c.args.cells.now.room s c.requires.room c.requires.inner.known)

pub returns-clause-value : goal.returns-clause-value
returns-clause-value g c =
    let circuit = c.args.piece.now in
    let each = c.requires.whole.numbers.each c.args.signal c.requires.inner.known in
    subst (λ (t : ℕ). c.value.result ≡ driver_value c.args.state.now [] c.args.cells.now.values (shape_at (signal_shapes circuit) t) (driver_at circuit t)) each c.value.ensures.value

pub returns-clause-fits : goal.returns-clause-fits
returns-clause-fits g c =
    let circuit = c.args.piece.now in
    let each = c.requires.whole.numbers.each c.args.signal c.requires.inner.known in
    subst (λ (t : ℕ). Fits (shape_at (signal_shapes circuit) t) c.value.result) each c.value.ensures.fits
