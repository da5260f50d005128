use Rattle.std.proofs.Common.{◌+◌, flat_map, take, arith}
use Rattle.gg_elab_sites.specs.Sites.{module_at}
use Rattle.gg_elab_sites.specs.declared.own.OwnSignal.{OwnSignal}
use Rattle.gg_elab_sites.specs.inside.Views.{cause_of}
use Rattle.gg_elab_tree.specs.inside.TreeParts.{clock_kept}
use Rattle.gg_elab_tree.proofs.KeptLemmas.{register_clocks-more}
use Rattle.gg_elab_tree.proofs.StopPartLemmas.{flat-seam}
use Rattle.gg_elab_tree.proofs.clocks.add_all_kept.Goals as goal

pub loop-signal-preserved : goal.loop-signal-preserved
loop-signal-preserved c =
    let m = module_at c.args.typed.now.circuit.modules c.args.number in
    register_clocks-more c.args.tree.now c.loop-signal.tree c.add_kept.new.tree
    (flat_map (λ (s : OwnSignal). clock_kept m (cause_of s.origin)) (take c.loop-signal.signal-index c.args.signals.now)) (clock_kept m (cause_of c.signal-item.result.origin)) (flat_map (λ (s : OwnSignal). clock_kept m (cause_of s.origin)) (take (c.loop-signal.signal-index + 1) c.args.signals.now))
    c.loop-signal.invariant c.in_ok-add_kept.ensures
    (flat-seam (λ (s : OwnSignal). clock_kept m (cause_of s.origin)) c.args.tree.now.register_clocks c.args.signals.now c.loop-signal.signal-index c.signal-item.result (omega arith) c.signal-item.is)
