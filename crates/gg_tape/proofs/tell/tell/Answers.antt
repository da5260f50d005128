use Rattle.std.proofs.Common.{◌≡◌, length, arith}
use Rattle.gg_tape.proofs.TellLemmas.{TellsTo-none, TellsTo-join, IsAdded-of}
use Rattle.gg_tape.proofs.tell.tell.Goals as goal

pub loop-k-init : goal.loop-k-init
loop-k-init c = TellsTo-none _ _ _ _

pub loop-k-preserved : goal.loop-k-preserved
loop-k-preserved c = TellsTo-join _ _ 0 _ _ _ _ _ _ _ _ c.loop-k.invariant c.in_ok-tell_node.ensures.told

pub returns : goal.returns
returns c =
    let all : c.loop-k.k ≡ length c.args.nodes.now = omega arith in
    record { told = IsAdded-of _ _ _ _ _ _ _ all c.loop-k.invariant }
