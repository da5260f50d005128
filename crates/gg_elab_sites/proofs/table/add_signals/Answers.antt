use Rattle.std.proofs.Common.{subst₂, arith}
use Rattle.std.specs.Prelude.{Contains}
use Rattle.gg_flat_tree.specs.Tree.{joined}
use Rattle.gg_elab_sites.specs.declared.own.OwnSignal.{OwnSignal}
use Rattle.gg_elab_sites.proofs.FreshLemmas.{next-new}
use Rattle.gg_elab_sites.proofs.table.add_signals.Goals as goal

pub add_path-requires : goal.add_path-requires
add_path-requires c = record {
  fresh = λ h.
      next-new (λ (s : OwnSignal). joined c.args.path.now s.name) c.args.table.now.paths c.args.signals.now c.loop-signal.signal-index c.signal-item.result c.requires.distinct (omega arith) c.signal-item.is
      (subst₂ Contains c.loop-signal.invariant.0 c.in_ok-joined.ensures h);
}
