use Rattle.std.proofs.Common.{◌≡◌, ◌<◌, ◌+◌, ℕ, List, [], ◌++◌, length, map, take, sym, ◌∙◌, ap, subst, arith}
use Rattle.std.specs.Prelude.{Contains}
use Rattle.std.proofs.lemmas.List.{take-map, length-take-le, length-append, length-map, get_or-map}
use Rattle.gg_flat.specs.Circuit.{FlatCircuit}
use Rattle.gg_flat_tree.specs.Tree.{path_at}
use Rattle.gg_bridge.specs.Joined.{signal_behind}
use Rattle.gg_bridge.proofs.JoinLemmas.{fresh-behind}
use Rattle.gg_bridge.proofs.joining.add_behind.Goals as goal

pub add_as-requires-clause-few : goal.add_as-requires-clause-few
add_as-requires-clause-few c =
    let model = c.args.model.now in
    let k = c.loop-place.place in
    let low = c.loop-place-test.true in
    let counted = c.signal_count-place-end.ensures.count in
    let few = c.requires.few in
    let f = signal_behind c.args.behind.now.globals.items c.args.behind.now.held.items c.args.behind.now.memories.items c.args.sees.now in
    let long : length c.loop-place.piece.signals ≡ length c.args.piece.now.signals + length (map f (take k model.signals)) =
    ap (λ (p : FlatCircuit). length p.signals) {y = record c.args.piece.now { paths = c.args.piece.now.paths ++ map (λ path. c.args.front.now ++ path) (take k model.paths); signals = c.args.piece.now.signals ++ map f (take k model.signals) }} c.loop-place.invariant ∙ length-append c.args.piece.now.signals (map f (take k model.signals)) in
    let mapped = length-map (take k model.signals) f in
    let taken = length-take-le k model.signals (omega (arith, low, counted)) in
    let bound : length c.loop-place.piece.signals < 4294967295 = omega (arith, long, mapped, taken, low, counted, few) in
    bound

pub add_as-requires-clause-fresh : goal.add_as-requires-clause-fresh
add_as-requires-clause-fresh c =
    let model = c.args.model.now in
    let k = c.loop-place.place in
    let low = c.loop-place-test.true in
    let counted = c.signal_count-place-end.ensures.count in
    let named = c.signal_count-place-end.ensures.paths in
    let name : List ℕ → List ℕ = λ path. c.args.front.now ++ path in
    let lt : k < length model.paths = omega (arith, low, counted, named) in
    λ h. fresh-behind c.args.piece.now.paths (map name model.paths) k c.requires.distinct (let long = length-map model.paths name in omega (arith, lt, long))
    (subst (λ (path : List ℕ). Contains (c.args.piece.now.paths ++ take k (map name model.paths)) path) (sym (get_or-map name model.paths k [] [] lt))
    (subst (λ (l : List (List ℕ)). Contains l (name (path_at model.paths k))) (ap (λ (p : FlatCircuit). p.paths) {y = record c.args.piece.now { paths = c.args.piece.now.paths ++ map name (take k model.paths); signals = c.args.piece.now.signals ++ map (signal_behind c.args.behind.now.globals.items c.args.behind.now.held.items c.args.behind.now.memories.items c.args.sees.now) (take k model.signals) }} c.loop-place.invariant ∙ ap (λ (l : List (List ℕ)). c.args.piece.now.paths ++ l) (sym (take-map name k model.paths))) h))
