use Rattle.std.proofs.Common.{◌≡◌, List, length, sym, ◌∙◌, ap, arith}
use Rattle.std.specs.Prelude.{slice_index_or}
use Rattle.gg_flat.specs.Circuit.{driver_at}
use Rattle.gg_flat.specs.declared.piece.Signal.{Signal}
use Rattle.gg_order.specs.inside.Marks.{driver_of}
use Rattle.gg_order.proofs.MarkLemmas.{driver_of-at}
use Rattle.gg_cut_plan.specs.Direct.{bare_of}
use Rattle.gg_cut_routes.proofs.WholeLemmas.{bare-known}
use Rattle.gg_cut_routes.proofs.origins.copied.Goals as goal

pub if_wide-requires-clause-next : goal.if_wide-requires-clause-next
if_wide-requires-clause-next c =
    let signals = c.signals.result.now in
    let at : (slice_index_or signals c.args.signal c.index-signals-signal.result).driver ≡ driver_at c.args.piece.now c.args.signal =
    driver_of-at signals c.args.signal c.index-signals-signal.result (omega (arith, c.requires.known, ap (λ (l : List Signal). length l) c.signals.ensures)) ∙ ap (λ (l : List Signal). driver_of l c.args.signal) c.signals.ensures in
    bare-known c.args.piece.now c.requires.formed c.args.signal c.in-Some.next c.requires.known (sym (c.in-Some.ensures ∙ ap bare_of at))
