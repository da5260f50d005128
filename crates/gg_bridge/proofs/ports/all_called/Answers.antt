use Rattle.std.proofs.Common.{length, ◌∙◌, sym}
use Rattle.gg_bridge.proofs.CalledLemmas.{has-places}
use Rattle.gg_bridge.proofs.ports.all_called.Goals as goal

pub first_called-requires-clause-places : goal.first_called-requires-clause-places
first_called-requires-clause-places c =
    has-places c.args.signals.now c.signal_count.result (length c.args.piece.now.paths) c.in_ok-places.places.items c.deref.result.now c.in_ok-places.ensures (c.signal_count.ensures.count ∙ sym c.signal_count.ensures.paths) c.deref.ensures.value
