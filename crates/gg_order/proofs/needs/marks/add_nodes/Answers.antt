use Rattle.std.proofs.Common.{List, [], subst, arith}
use Rattle.std.proofs.lemmas.List.{take_all}
use Rattle.gg_flat.specs.declared.line.Node.{Node}
use Rattle.gg_flat.specs.Reads.{Names}
use Rattle.gg_order.proofs.MarkLemmas.{Names-none, Names-at}
use Rattle.gg_order.specs.inside.NeedsMarks.{Adds}
use Rattle.gg_order.proofs.NeedsLemmas.AddLemmas.{Adds-none, Adds-node}
use Rattle.gg_order.proofs.needs.marks.add_nodes.Goals as goal

pub loop-node-init : goal.loop-node-init
loop-node-init c = Adds-none c.args.added (Names []) c.args.marks.now Names-none

pub add_op-requires : goal.add_op-requires
add_op-requires c =
    λ s op. let lt = c.requires s (Names-at c.args.nodes.now c.loop-node.node-index c.node-item.result s c.loop-node-test.true c.node-item.is op) in omega arith

pub loop-node-preserved : goal.loop-node-preserved
loop-node-preserved c =
    Adds-node c.args.added c.args.nodes.now c.loop-node.node-index c.node-item.result c.args.marks.now c.loop-node.marks c.add_op.new.marks c.loop-node-test.true c.node-item.is c.loop-node.invariant c.add_op.ensures

pub returns : goal.returns
returns c =
    subst (λ (l : List Node). Adds c.args.added (Names l) c.args.marks.now c.loop-node.marks) (take_all c.loop-node.node-index c.args.nodes.now (omega arith)) c.loop-node.invariant
