use Rattle.std.proofs.Common.{List, length, sym, subst}
use Rattle.std.specs.Prelude.{All}
use Rattle.std.proofs.lemmas.List.Elements.{All-push}
use Rattle.gg_bits.specs.Shape.{Shape, shape}
use Rattle.gg_flat.specs.declared.piece.Driver.{Driver}
use Rattle.gg_flat.specs.Circuit.{driver_at}
use Rattle.gg_flat.specs.WellFormed.{MayDrive}
use Rattle.gg_flat.proofs.TypedLemmas.{IsSignal-read}
use Rattle.gg_tape.specs.declared.taped.TapedSignal.{TapedSignal}
use Rattle.gg_tape.specs.inside.Tape.{IsOrigin, IsTapedSignal}
use Rattle.gg_tape.proofs.TapeLemmas.{signals-more}
use Rattle.gg_tape.proofs.tape.Tape.add.Goals as goal

pub origin_of-requires-clause-driver : goal.origin_of-requires-clause-driver
origin_of-requires-clause-driver c =
    let circuit = c.args.piece.now in
    let s = c.args.signal in
    let is = IsSignal-read circuit s c.index-signals-signal.result c.requires.known (rw c.signals.ensures at c.index-signals-signal.is) in
    subst (λ (d : Driver). MayDrive circuit s d) is.driver_is (c.requires.formed.drivers s c.requires.known)

pub origin_of-requires-clause-sink : goal.origin_of-requires-clause-sink
origin_of-requires-clause-sink c =
    let is = IsSignal-read c.args.piece.now c.args.signal c.index-signals-signal.result c.requires.known (rw c.signals.ensures at c.index-signals-signal.is) in
    is.shape_is

pub returns-clause-taped : goal.returns-clause-taped
returns-clause-taped c =
    let circuit = c.args.piece.now in
    let s = c.args.signal in
    let code = c.origin_of.new.code in
    let origin = c.in_ok-origin.origin in
    let row = c.index-signals-signal.result in
    let is = IsSignal-read circuit s c.index-signals-signal.result c.requires.known (rw c.signals.ensures at c.index-signals-signal.is) in
    let from = subst (λ (d : Driver). IsOrigin (length circuit.signals) code (shape row.ty) origin d) (sym is.driver_is) c.in_ok-origin.ensures.origin in
    let taped : TapedSignal = record { signal = s; origin = origin } in
    let one : IsTapedSignal circuit code taped = record { known = c.requires.known; origin = subst (λ (k : Shape). IsOrigin (length circuit.signals) code k origin (driver_at circuit s)) (sym is.shape_is) from } in
    let old = signals-more circuit c.args.self.now.code code c.args.self.now.signals.items c.in_ok-origin.ensures.grown c.requires.signals in
    subst (λ (xs : List TapedSignal). All (IsTapedSignal circuit code) xs) (sym c.in_ok-push.ensures.items) (All-push (IsTapedSignal circuit code) c.args.self.now.signals.items taped old one)
