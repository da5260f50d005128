use Rattle.std.proofs.Common.{◌<◌, [], ◌∷◌, ◌++◌, length, get_or, sym, ◌∙◌, ap, subst, arith}
use Rattle.std.specs.Prelude.{All}
use Rattle.std.proofs.lemmas.List.{map_more, take_more, length-take-le}
use Rattle.gg_flat.specs.Circuit.{FlatCircuit, no_circuit}
use Rattle.gg_flat.specs.Line.{value_at}
use Rattle.gg_flat_tree.specs.Tree.{path_at}
use Rattle.gg_flat.proofs.ListLemmas.{some-item}
use Rattle.gg_part.proofs.BuildLemmas.{path-fresh, only-signals}
use Rattle.gg_part.proofs.FrameLemmas.{length-once}
use Rattle.gg_cut_parts.proofs.moved_piece.add_signals.Goals as goal

pub add_signal-requires-clause-few : goal.add_signal-requires-clause-few
add_signal-requires-clause-few c =
    let globals = c.args.globals.now in
    let few : length c.loop-place.piece.signals < 4294967295 =
    omega (arith, ap length c.loop-place.invariant.signals, length-take-le c.loop-place.place c.args.other.now.signals (omega (arith, c.loop-place-test.true, c.requires.signals)), c.loop-place-test.true, c.signal_count.ensures.few, length-once globals (length c.args.whole.now.signals) c.requires.once c.requires.within) in
    few

pub add_signal-requires-clause-fresh : goal.add_signal-requires-clause-fresh
add_signal-requires-clause-fresh c =
    let globals = c.args.globals.now in
    let whole = c.args.whole.now in
    path-fresh whole globals [] [] [] c.loop-place.place c.loop-place-test.true c.loop-place.piece.paths c.requires.formed.distinct c.requires.once (subst (λ n. All (λ s. s < n) globals) (sym c.requires.formed.named) c.requires.within) c.loop-place.invariant.paths

pub loop-place-preserved : goal.loop-place-preserved
loop-place-preserved c =
    let globals = c.args.globals.now in
    let whole = c.args.whole.now in
    let signals = c.args.other.now.signals in
    let k = c.loop-place.place in
    let old = c.loop-place.piece in
    let new = c.add_signal.new.piece in
    let inside : k < length signals = omega (arith, c.loop-place-test.true, c.requires.signals) in
    let any = some-item signals k inside in
    let added = c.in_ok-add_signal.ensures any in
    record {
      only = only-signals no_circuit old new (old.paths ++ path_at whole.paths (value_at globals k) ∷ []) (old.signals ++ get_or signals k any ∷ []) added c.loop-place.invariant.only;
      paths =
          ap (λ (p : FlatCircuit). p.paths) added
          ∙ ap (λ front. front ++ path_at whole.paths (value_at globals k) ∷ []) c.loop-place.invariant.paths
          ∙ sym (map_more (path_at whole.paths) globals k 0 c.loop-place-test.true);
      signals =
          ap (λ (p : FlatCircuit). p.signals) added
          ∙ ap (λ front. front ++ get_or signals k any ∷ []) c.loop-place.invariant.signals
          ∙ sym (take_more signals k any inside);
    }
