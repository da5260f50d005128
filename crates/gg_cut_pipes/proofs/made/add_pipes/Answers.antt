use Rattle.std.proofs.Common.{◌<◌, ◌+◌, ℕ, List, [], ◌++◌, codes, length, map, take, get_or, sym, ◌∙◌, ap, subst, arith}
use Rattle.std.specs.Prelude.{Contains}
use Rattle.std.proofs.lemmas.List.{map_more, take-map, length-take-le, length-append, length-map, get_or-map}
use Rattle.gg_flat.specs.Circuit.{FlatCircuit}
use Rattle.gg_flat.specs.Line.{value_at}
use Rattle.gg_flat_tree.specs.Tree.{path_at}
use Rattle.gg_flat.proofs.ListLemmas.{some-item}
use Rattle.gg_cut_reference.specs.Made.{pipe_signal, pipe_signals}
use Rattle.gg_cut_pipes.proofs.BuildLemmas.{signals-more, signals-few, fresh-behind, signals-grow}
use Rattle.gg_cut_pipes.proofs.made.add_pipes.Goals as goal

pub add_pipe-requires-clause-few : goal.add_pipe-requires-clause-few
add_pipe-requires-clause-few c =
    let one = c.args.one.now in
    let pipes = c.args.pipes.now in
    let k = c.loop-place.place in
    let low = c.loop-place-test.true in
    let few = c.requires.few in
    let count = c.requires.count in
    let long = ap (λ (p : FlatCircuit). length p.signals) c.loop-place.invariant ∙ length-append c.args.piece.now.signals (pipe_signals one.signals (length one.registers) (take k pipes)) in
    let at-most = signals-few one.signals (length one.registers) (take k pipes) in
    let taken = length-take-le k pipes (omega (arith, low)) in
    let bound : length c.loop-place.piece.signals < 4294967295 = omega (arith, long, low, few, count, at-most, taken) in
    bound

pub add_pipe-requires-clause-fresh : goal.add_pipe-requires-clause-fresh
add_pipe-requires-clause-fresh c =
    let one = c.args.one.now in
    let pipes = c.args.pipes.now in
    let k = c.loop-place.place in
    let low = c.loop-place-test.true in
    let name : ℕ → List ℕ = λ s. codes "pipe:" ++ path_at one.paths s in
    λ h. fresh-behind c.args.piece.now.paths (map name pipes) k c.requires.distinct (let long = length-map pipes name in omega (arith, low, long))
    (subst (λ (path : List ℕ). Contains (c.args.piece.now.paths ++ take k (map name pipes)) path) (sym (get_or-map name pipes k 0 [] low))
    (subst (λ (l : List (List ℕ)). Contains l (name (value_at pipes k))) (ap (λ (p : FlatCircuit). p.paths) c.loop-place.invariant ∙ ap (λ (l : List (List ℕ)). c.args.piece.now.paths ++ l) (sym (take-map name k pipes))) h))

pub loop-place-preserved : goal.loop-place-preserved
loop-place-preserved c =
    let one = c.args.one.now in
    let pipes = c.args.pipes.now in
    let k = c.loop-place.place in
    let low = c.loop-place-test.true in
    let first = length one.registers in
    let name : ℕ → List ℕ = λ s. codes "pipe:" ++ path_at one.paths s in
    let known = c.requires.known k 0 low in
    let any = some-item one.signals (value_at pipes k) known in
    signals-grow c.args.piece.now c.loop-place.piece c.add_pipe.new.piece (map name (take k pipes)) (map name (take (k + 1) pipes)) (pipe_signals one.signals first (take k pipes)) (pipe_signals one.signals first (take (k + 1) pipes)) (name (value_at pipes k))
    _ (pipe_signal (first + k) (get_or one.signals (value_at pipes k) any))
    (c.in_ok-add_pipe.ensures any) c.loop-place.invariant (ap (λ r. pipe_signal (r + k) (get_or one.signals (value_at pipes k) any)) (ap length c.registers.ensures)) (map_more name pipes k 0 low) (signals-more one.signals first pipes k any low known)
