use Rattle.gg_flat.proofs.PortLemmas.{ports_at-push}
use Rattle.gg_flat.proofs.ports.ports_of.Goals as goal

pub loop-signal-preserved : goal.loop-signal-preserved
loop-signal-preserved c =
    ports_at-push c.args.piece.now c.args.signals.now c.loop-signal.signal-index c.in_ok-port_of.field-0 c.loop-signal.ports.items c.push.new.self.items
    c.loop-signal-test.true c.in_ok-port_of.ensures c.loop-signal.invariant c.in_ok-push.ensures.items
