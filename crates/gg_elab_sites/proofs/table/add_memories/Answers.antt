use Rattle.std.proofs.Common.{subst₂, arith}
use Rattle.std.specs.Prelude.{Contains}
use Rattle.gg_flat_tree.specs.Tree.{joined}
use Rattle.gg_elab_sites.specs.declared.digest.OwnMemory.{OwnMemory}
use Rattle.gg_elab_sites.proofs.FreshLemmas.{next-new}
use Rattle.gg_elab_sites.proofs.table.add_memories.Goals as goal

pub add_path-requires : goal.add_path-requires
add_path-requires c = record {
  fresh = λ h.
      next-new (λ (m : OwnMemory). joined c.args.path.now m.name.now) c.args.table.now.memories c.args.memories.now c.loop-memory.memory-index c.memory-item.result c.requires.distinct (omega arith) c.memory-item.is
      (subst₂ Contains c.loop-memory.invariant.0 c.in_ok-joined.ensures h);
}
