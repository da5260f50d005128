use Rattle.std.proofs.Common.{◌≡◌, ◌<◌, [], ◌∷◌, ◌++◌, length, sym, ap, subst, arith}
use Rattle.std.specs.Prelude.{All, Contains}
use Rattle.gg_flat_tree.specs.Tree.{path_at}
use Rattle.gg_flat.specs.Line.{value_at}
use Rattle.gg_flat.specs.Circuit.{no_circuit}
use Rattle.gg_part.specs.inside.Building.{IsAdded}
use Rattle.gg_part.proofs.FrameLemmas.{length-once}
use Rattle.gg_part.proofs.BuildLemmas.{AreSignals-more, path-fresh, only-signals}
use Rattle.gg_part.proofs.build.add_signals.Goals as goal

pub add_signal-requires-clause-few : goal.add_signal-requires-clause-few
add_signal-requires-clause-few c =
    let few : length c.loop-signal.piece.signals < 4294967295 = omega (arith, c.loop-signal.invariant.signals.counted, ap length c.as_slice-signal-items.ensures, c.loop-signal-test.true, c.signal_count.ensures.few, length-once c.args.frame.now.globals (length c.args.whole.now.signals) c.requires.chosen.once c.requires.chosen.within) in
    few

pub add_signal-requires-clause-fresh : goal.add_signal-requires-clause-fresh
add_signal-requires-clause-fresh c =
    let globals = c.args.frame.now.globals in
    let whole = c.args.whole.now in
    let k = c.loop-signal.signal-index in
    let lt : k < length globals = omega (arith, ap length c.as_slice-signal-items.ensures, c.loop-signal-test.true) in
    let same : value_at c.as_slice-signal-items.result.now k ≡ value_at globals k = ap (λ l. value_at l k) c.as_slice-signal-items.ensures in
    let fresh : Contains c.loop-signal.piece.paths (path_at whole.paths (value_at globals k)) → ⊥ = path-fresh whole globals c.args.frame.now.ins c.args.frame.now.held c.args.frame.now.memories k lt c.loop-signal.piece.paths c.requires.formed.distinct c.requires.chosen.once (subst (λ n. All (λ s. s < n) globals) (sym c.requires.formed.named) c.requires.chosen.within) c.loop-signal.invariant.signals.paths in
    subst (λ s. Contains c.loop-signal.piece.paths (path_at whole.paths s) → ⊥) (sym same) fresh

pub loop-signal-preserved : goal.loop-signal-preserved
loop-signal-preserved c =
    let globals = c.args.frame.now.globals in
    let whole = c.args.whole.now in
    let ins = c.args.frame.now.ins in
    let held = c.args.frame.now.held in
    let memories = c.args.frame.now.memories in
    let k = c.loop-signal.signal-index in
    let old = c.loop-signal.piece in
    let new = c.add_signal.new.piece in
    let lt : k < length globals = omega (arith, ap length c.as_slice-signal-items.ensures, c.loop-signal-test.true) in
    let same : value_at c.as_slice-signal-items.result.now k ≡ value_at globals k = ap (λ l. value_at l k) c.as_slice-signal-items.ensures in
    let added = subst (λ s. IsAdded whole globals ins held memories s old new) same c.in_ok-add_signal.ensures in
    record {
      only = only-signals no_circuit old new (old.paths ++ path_at whole.paths (value_at globals k) ∷ []) (old.signals ++ added.own ∷ []) added.is c.loop-signal.invariant.only;
      signals = AreSignals-more whole globals ins held memories k lt old new added c.loop-signal.invariant.signals;
    }
