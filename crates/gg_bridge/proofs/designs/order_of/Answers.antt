use Rattle.std.proofs.Common.{subst}
use Rattle.gg_order.specs.inside.Fault.{IfLoop}
use Rattle.gg_order.specs.Loop.{IsToldLoop}
use Rattle.gg_bridge.proofs.designs.order_of.Goals as goal

pub unreachable-requires : goal.unreachable-requires
unreachable-requires c =
    let told = subst (IfLoop (IsToldLoop c.args.piece.now)) c.in-Err-Loop.field-0-is c.in-Err-Loop.ensures.fault in
    c.no_loop.ensures c.args.piece.now c.requires.ordered.order c.in-Err-Loop.field-0-0 c.requires.ordered.is told.loop
