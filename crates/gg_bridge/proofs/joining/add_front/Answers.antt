use Rattle.std.proofs.Common.{◌≡◌, ◌<◌, ◌+◌, ℕ, List, [], length, take, get_or, Option, ◌∙◌, ap, ap₂, subst, arith}
use Rattle.std.specs.Prelude.{Contains}
use Rattle.std.proofs.lemmas.List.{take_more, length-take-le}
use Rattle.gg_flat.specs.declared.piece.Signal.{Signal}
use Rattle.gg_flat.specs.Circuit.{FlatCircuit, no_circuit}
use Rattle.gg_flat_tree.specs.Tree.{path_at}
use Rattle.gg_bridge.specs.Joined.{linked, linked_signal, place_among}
use Rattle.gg_bridge.specs.inside.Joined.{place_at}
use Rattle.gg_bits.specs.Lists.{by_number}
use Rattle.gg_bridge.proofs.NumberLemmas.{length-by}
use Rattle.gg_bridge.proofs.JoinLemmas.{number-more, fresh-at, signals-grow}
use Rattle.gg_bridge.proofs.joining.add_front.Goals as goal

pub add_as-requires-clause-few : goal.add_as-requires-clause-few
add_as-requires-clause-few c =
    let one = c.args.one.now in
    let k = c.loop-place.place in
    let low = c.loop-place-test.true in
    let counted = c.signal_count-place-end.ensures.count in
    let few = c.signal_count-place-end.ensures.few in
    let long = ap (λ (p : FlatCircuit). length p.signals) c.loop-place.invariant ∙ length-by (linked c.args.outs.now c.args.drives.now c.args.left.now) 0 (take k one.signals) ∙ length-take-le k one.signals (omega (arith, low, counted)) in
    let bound : length c.loop-place.piece.signals < 4294967295 = omega (arith, long, low, counted, few) in
    bound

pub add_as-requires-clause-fresh : goal.add_as-requires-clause-fresh
add_as-requires-clause-fresh c =
    let one = c.args.one.now in
    let k = c.loop-place.place in
    let low = c.loop-place-test.true in
    let counted = c.signal_count-place-end.ensures.count in
    let named = c.signal_count-place-end.ensures.paths in
    λ h. fresh-at one.paths k c.signal_count-place-end.ensures.distinct (omega (arith, low, counted, named))
    (subst (λ (l : List (List ℕ)). Contains l (path_at one.paths k)) (ap (λ (p : FlatCircuit). p.paths) c.loop-place.invariant) h)

pub loop-place-preserved : goal.loop-place-preserved
loop-place-preserved c =
    let one = c.args.one.now in
    let k = c.loop-place.place in
    let low = c.loop-place-test.true in
    let counted = c.signal_count-place-end.ensures.count in
    let named = c.signal_count-place-end.ensures.paths in
    let lt : k < length one.signals = omega (arith, low, counted) in
    let own = c.index-signals-place.result in
    let outs = c.args.outs.now in
    let f = linked outs c.args.drives.now c.args.left.now in
    let inside : k < c.signal_count.result = omega (arith, low, counted, c.signal_count.ensures.count) in
    let within : k < c.signal_count-2.result = omega (arith, low, counted, c.signal_count-2.ensures.count) in
    let driven : place_at c.deref.result.now k ≡ place_among c.args.drives.now k = ap (λ table. place_at table k) c.deref.ensures.value ∙ c.in_ok-driven.ensures.each k inside in
    let kept : place_at c.deref-in-loop-place.result.now k ≡ place_among c.args.left.now k = ap (λ table. place_at table k) c.deref-in-loop-place.ensures.value ∙ c.in_ok-kept.ensures.each k within in
    signals-grow no_circuit c.loop-place.piece c.add_as.new.piece (take k one.paths) (take (k + 1) one.paths) (by_number f 0 (take k one.signals)) (by_number f 0 (take (k + 1) one.signals)) (path_at one.paths k) c.in_ok-signal.signal (f k (get_or one.signals k own))
    c.in_ok-add_as.ensures c.loop-place.invariant (c.in_ok-signal.ensures ∙ ap₂ (λ (d l : Option ℕ). linked_signal outs d l own) driven kept ∙ ap (f k) (c.index-signals-place.is ∙ ap (λ (l : List Signal). get_or l k own) c.signals.ensures)) (take_more one.paths k [] (omega (arith, lt, named))) (number-more f one.signals k own lt)
