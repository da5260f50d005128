use Rattle.std.proofs.Common.{◌≡◌, ℕ, ◌+◌, ◌<◌, List, [], ◌∷◌, ◌++◌, length, subst, sym, ap, ◌∙◌, arith}
use Rattle.std.proofs.lemmas.List.{length-append}
use Rattle.gg_flat.specs.Line.{value_at}
use Rattle.gg_order.specs.needs.Needs.{AreNeeds}
use Rattle.gg_order.specs.inside.Walk.{AreMarkedIns}
use Rattle.gg_order.proofs.NeedsLemmas.MarkedInLemmas.{AreNeeds-marked}
use Rattle.gg_order.specs.inside.NeedsMarks.{marks_of}
use Rattle.gg_order.specs.inside.Groups.{AreNeedsSoFar}
use Rattle.gg_order.proofs.NeedsLemmas.NeedLemmas.{AreNeedsSoFar-push}
use Rattle.gg_order.proofs.needs.needs.add_group.Goals as goal

pub loop-place-preserved : goal.loop-place-preserved
loop-place-preserved c =
    let circuit = c.args.piece.now in
    let place = c.loop-place.place in
    let before = c.loop-place.needs.items in
    let own = c.in_ok-own.own in
    let n = c.len-first.result + place in
    let outs = c.outs.ensures in
    let group = c.group_from-group.ensures in
    let lt : place < length c.group_from-group.result.now = c.loop-place-test.true in
    let at : value_at c.group_from-group.result.now place ≡ value_at circuit.outs n = group.each place lt ∙ ap (λ (l : List ℕ). value_at l n) outs in
    let some : n < length circuit.outs = omega (arith, lt, group.within, ap (λ (l : List ℕ). length l) outs) in
    let marks = marks_of place c.in_ok-marks.marks.items in
    let marked = subst (λ (l : List ℕ). AreMarkedIns circuit (marks_of place l) (length circuit.ins) own) c.deref-in-loop-place.ensures.value c.in_ok-own.ensures in
    let needs : AreNeeds circuit (value_at circuit.outs n) own =
    subst (λ (s : ℕ). AreNeeds circuit s own) at (AreNeeds-marked circuit (value_at c.group_from-group.result.now place) marks own (c.in_ok-marks.ensures.each place lt) marked) in
    let items : c.push.new.self.items ≡ before ++ own ∷ [] = c.in_ok-push.ensures.items in
    record {
      count = ap (λ (l : List (List ℕ)). length l) items ∙ (let one : length (before ++ own ∷ []) ≡ c.len-first.result + (place + 1) = omega (arith, length-append before (own ∷ []), c.loop-place.invariant.count) in one);
      so_far = subst (AreNeedsSoFar circuit) (sym items) (AreNeedsSoFar-push circuit before own n (sym c.loop-place.invariant.count) some needs c.loop-place.invariant.so_far);
    }
