use Rattle.std.proofs.Common.{◌≡◌, List, length, sym, ◌∙◌, ap, subst, arith}
use Rattle.std.specs.Prelude.{slice_index_or}
use Rattle.gg_flat.specs.Circuit.{driver_at}
use Rattle.gg_flat.specs.declared.piece.Signal.{Signal}
use Rattle.gg_flat.specs.WellFormed.{MayDrive}
use Rattle.gg_order.specs.inside.Marks.{driver_of}
use Rattle.gg_order.proofs.MarkLemmas.{driver_of-at}
use Rattle.gg_cut_routes.proofs.names.push_driver_of.Goals as goal

pub push_driver-requires : goal.push_driver-requires
push_driver-requires c =
    let signals = c.signals.result.now in
    let at : (slice_index_or signals c.args.signal c.index-signals-signal.result).driver ≡ driver_at c.args.piece.now c.args.signal =
    driver_of-at signals c.args.signal c.index-signals-signal.result (omega (arith, c.requires.known, ap (λ (l : List Signal). length l) c.signals.ensures)) ∙ ap (λ (l : List Signal). driver_of l c.args.signal) c.signals.ensures in
    subst (MayDrive c.args.piece.now c.args.signal) (sym at) (c.requires.formed.drivers c.args.signal c.requires.known)
