use Rattle.std.proofs.Common.{◌≡◌, List, ℕ, length, sym, ◌∙◌, ap, subst}
use Rattle.std.proofs.lemmas.List.{length-map}
use Rattle.gg_bits.specs.Shape.{shape}
use Rattle.gg_flat.specs.declared.piece.Signal.{Signal}
use Rattle.gg_flat.specs.Circuit.{signal_shapes}
use Rattle.gg_flat.specs.Line.{AreTyped}
use Rattle.gg_flat.proofs.TypedLemmas.{AreTyped-zeros}
use Rattle.gg_order.specs.runs.Room.{HasRoom}
use Rattle.gg_tape.specs.inside.Cells.{Celled}
use Rattle.gg_tape.proofs.cells.Cells.of.Goals as goal

pub returns-clause-typed : goal.returns-clause-typed
returns-clause-typed c =
    let piece = c.args.piece.now in
    let count : c.signal_count.result ≡ length (signal_shapes piece) = c.signal_count.ensures.count ∙ sym (length-map piece.signals (λ (signal : Signal). shape signal.ty)) in
    subst (λ (values : List ℕ). AreTyped (signal_shapes piece) values) (sym (ap (λ (x : Celled). x.values) (c.in_ok-cells.ensures {u = tt}))) (AreTyped-zeros (signal_shapes piece) c.signal_count.result count)

pub returns-clause-room : goal.returns-clause-room
returns-clause-room c = subst (HasRoom c.args.piece.now) (sym (ap (λ (x : Celled). x.room) (c.in_ok-cells.ensures {u = tt}))) c.room_of.ensures.enough
