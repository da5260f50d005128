use Rattle.std.proofs.Common.{◌≡◌, List, length, subst, ap, ◌∙◌, arith}
use Rattle.std.specs.Prelude.{slice_index_or}
use Rattle.gg_flat.specs.Circuit.{driver_at}
use Rattle.gg_flat.specs.declared.piece.Driver.{Driver}
use Rattle.gg_flat.specs.declared.piece.Signal.{Signal}
use Rattle.gg_flat.specs.Reads.{NamesSignal}
use Rattle.gg_order.specs.inside.Marks.{driver_of}
use Rattle.gg_order.proofs.MarkLemmas.{driver_of-at}
use Rattle.gg_order.proofs.ReadLemmas.{names_within}
use Rattle.gg_order.proofs.needs.walk.hand_on.Goals as goal

pub add_driver-requires : goal.add_driver-requires
add_driver-requires c =
    λ s h.
    let signals = c.signals.result.now in
    let at : (slice_index_or signals c.args.signal c.index-signals-signal.result).driver ≡ driver_at c.args.piece.now c.args.signal =
    driver_of-at signals c.args.signal c.index-signals-signal.result (omega (arith, c.requires.known, ap (λ (l : List Signal). length l) c.signals.ensures)) ∙ ap (λ (l : List Signal). driver_of l c.args.signal) c.signals.ensures in
    let within = names_within c.args.piece.now c.args.signal s c.requires.formed c.requires.known (subst (λ (d : Driver). NamesSignal d s) at h) in
    omega (arith, within, c.requires.count)
