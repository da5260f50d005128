use Rattle.std.proofs.Common.{◌≡◌, ◌+◌, ◌-◌, List, length, refl, subst, ap, arith}
use Rattle.gg_flat.specs.declared.piece.Signal.{Signal}
use Rattle.gg_order.specs.inside.Walk.{HandsOn}
use Rattle.gg_order.proofs.NeedsLemmas.WalkLemmas.{AreWalks-start, AreWalks-step, AreWalks-end}
use Rattle.gg_order.proofs.needs.walk.hand_down.Goals as goal

pub loop-done-init : goal.loop-done-init
loop-done-init c = AreWalks-start c.args.piece.now c.args._group.now (length c.args._group.now) (length c.args.piece.now.signals - 0) c.args.marks.now refl (omega arith) c.requires.own

pub loop-done-preserved : goal.loop-done-preserved
loop-done-preserved c =
    let circuit = c.args.piece.now in
    let total : length c.signals-count.result.now ≡ length circuit.signals = ap (λ (l : List Signal). length l) c.signals-count.ensures in
    let k = length circuit.signals - (c.loop-done.done + 1) in
    AreWalks-step circuit c.args._group.now k (length circuit.signals - c.loop-done.done) c.loop-done.marks c.hand_on.new.marks c.requires.ordered
    (omega (arith, c.loop-done-test.true, total)) (omega (arith, c.loop-done-test.true, total))
    (let same : length c.signals-count.result.now - 1 - c.loop-done.done ≡ k = omega (arith, total) in
    subst (λ x. HandsOn circuit x c.loop-done.marks c.hand_on.new.marks) same c.hand_on.ensures)
    c.loop-done.invariant

pub returns : goal.returns
returns c =
    let circuit = c.args.piece.now in
    let total : length c.signals-count.result.now ≡ length circuit.signals = ap (λ (l : List Signal). length l) c.signals-count.ensures in
    AreWalks-end circuit c.args._group.now (length circuit.signals - c.loop-done.done) c.loop-done.marks c.requires.ordered (omega (arith, c.loop-done-test.false, total)) c.loop-done.invariant
