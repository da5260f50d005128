use Rattle.std.proofs.Common.{◌<◌, ◌+◌, ℕ, List, [], length, take, get_or, ◌∙◌, ap, subst, refl, arith}
use Rattle.std.specs.Prelude.{Contains}
use Rattle.std.proofs.lemmas.List.{take_more, length-take-le}
use Rattle.gg_flat.specs.Circuit.{FlatCircuit, no_circuit}
use Rattle.gg_flat_tree.specs.Tree.{path_at}
use Rattle.gg_flat.proofs.ListLemmas.{some-item}
use Rattle.gg_cut_reference.specs.Made.{seen_signal}
use Rattle.gg_bits.specs.Lists.{by_number}
use Rattle.gg_cut_pipes.specs.inside.Tables.{views_by}
use Rattle.gg_cut_reference.proofs.MadeLemmas.{length-by}
use Rattle.gg_cut_pipes.proofs.BuildLemmas.{number-more, fresh-at, signals-grow}
use Rattle.gg_cut_pipes.proofs.made.add_signals.Goals as goal

pub add_signal-requires-clause-few : goal.add_signal-requires-clause-few
add_signal-requires-clause-few c =
    let one = c.args.one.now in
    let k = c.loop-place.place in
    let low = c.loop-place-test.true in
    let counted = c.signal_count-place-end.ensures.count in
    let few = c.signal_count-place-end.ensures.few in
    let long = ap (λ (p : FlatCircuit). length p.signals) c.loop-place.invariant ∙ length-by (seen_signal (views_by c.args.tables.now)) 0 (take k one.signals) ∙ length-take-le k one.signals (omega (arith, low, counted)) in
    let bound : length c.loop-place.piece.signals < 4294967295 = omega (arith, long, low, counted, few) in
    bound

pub add_signal-requires-clause-fresh : goal.add_signal-requires-clause-fresh
add_signal-requires-clause-fresh c =
    let one = c.args.one.now in
    let k = c.loop-place.place in
    let low = c.loop-place-test.true in
    let counted = c.signal_count-place-end.ensures.count in
    let named = c.signal_count-place-end.ensures.paths in
    λ h. fresh-at one.paths k c.signal_count-place-end.ensures.distinct (omega (arith, low, counted, named))
    (subst (λ (l : List (List ℕ)). Contains l (path_at one.paths k)) (ap (λ (p : FlatCircuit). p.paths) c.loop-place.invariant) h)

pub loop-place-preserved : goal.loop-place-preserved
loop-place-preserved c =
    let one = c.args.one.now in
    let k = c.loop-place.place in
    let low = c.loop-place-test.true in
    let counted = c.signal_count-place-end.ensures.count in
    let named = c.signal_count-place-end.ensures.paths in
    let lt : k < length one.signals = omega (arith, low, counted) in
    let any = some-item one.signals k lt in
    let f = seen_signal (views_by c.args.tables.now) in
    signals-grow no_circuit c.loop-place.piece c.add_signal.new.piece (take k one.paths) (take (k + 1) one.paths) (by_number f 0 (take k one.signals)) (by_number f 0 (take (k + 1) one.signals)) (path_at one.paths k) (f k (get_or one.signals k any)) (f k (get_or one.signals k any))
    (c.in_ok-add_signal.ensures any) c.loop-place.invariant refl (take_more one.paths k [] (omega (arith, lt, named))) (number-more f one.signals k any lt)
