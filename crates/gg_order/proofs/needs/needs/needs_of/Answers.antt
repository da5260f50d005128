use Rattle.std.proofs.Common.{ℕ, List, length, ap, arith}
use Rattle.gg_order.proofs.NeedsLemmas.NeedLemmas.{AreNeedsOfOuts-all}
use Rattle.gg_order.proofs.needs.needs.needs_of.Goals as goal

pub returns : goal.returns
returns c =
    AreNeedsOfOuts-all c.args.piece.now c.loop-alloc.needs.items (omega (arith, c.loop-alloc-test.false, ap (λ (l : List ℕ). length l) c.outs.ensures)) c.loop-alloc.invariant
