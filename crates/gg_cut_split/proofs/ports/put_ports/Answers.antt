use Rattle.std.proofs.Common.{◌∙◌}
use Rattle.gg_flat.specs.Line.{value_at}
use Rattle.gg_flat_tree.specs.Tree.{path_at}
use Rattle.gg_cut_split.proofs.TakerLemmas.{put-more}
use Rattle.gg_cut_split.proofs.ports.put_ports.Goals as goal

pub loop-port-preserved : goal.loop-port-preserved
loop-port-preserved c = (
  c.set_named.ensures.count ∙ c.loop-port.invariant.0,
  λ s lt.
      put-more c.args.ports.now c.loop-port.port-index c.port-item.result (path_at c.args.piece.now.paths s) c.args.«number» (value_at c.args.table.now.items s) (value_at c.loop-port.table.items s) (value_at c.set_named.new.table.items s)
      c.loop-port-test.true c.port-item.is (c.loop-port.invariant.1 s lt) (c.set_named.ensures.set s lt),
)
