use Rattle.std.proofs.Common.{◌≡◌, Some, length, sym, subst, arith}
use Rattle.std.specs.Bool.{OnFalse, OnTrue}
use Rattle.std.proofs.lemmas.Bool.Decides.{nat_tests}
use Rattle.gg_flat.specs.State.{IsState, State}
use Rattle.gg_snap.specs.inside.Places.{Ends, IsLineOfNone, IsTaken, behind}
use Rattle.gg_snap.specs.text.Standing.{pieces}
use Rattle.gg_snap.proofs.TextLemmas.ReadLemmas.{reads-all, reads-begin, reads-step, reads-stop}
use Rattle.gg_snap.proofs.text.reading.take_lines.Goals as goal

pub loop-rest-init : goal.loop-rest-init
loop-rest-init c = λ circuit known is. reads-begin circuit c.args.rows.now c.args.text.now c.args.draft.now is

pub returns-then-not-branch-clause-ends : goal.returns-then-not-branch-clause-ends
returns-then-not-branch-clause-ends c = λ circuit known is.
    let rows = c.args.rows.now in
    let text = c.args.text.now in
    let r = c.loop-rest.invariant circuit known is in
    let piece = c.cut_piece.result.0.now in
    let kept : c.take_line.new.draft ≡ c.loop-rest.draft = subst (λ b. OnFalse b (c.take_line.new.draft ≡ c.loop-rest.draft)) c.if-not-branch.true c.in_ok-take_line.ensures.kept in
    let none = subst (λ b. OnFalse b (IsLineOfNone piece (behind rows c.loop-rest.cursor))) c.if-not-branch.true c.in_ok-take_line.ensures.refused in
    subst (λ (s : State). IsState circuit s × Ends circuit rows text s (Some c.loop-rest.count)) (sym kept)
    (r.typed, reads-stop circuit rows text c.loop-rest.rest.now c.loop-rest.count c.loop-rest.cursor c.loop-rest.draft known r piece (pieces c.cut_piece.result.1.now) c.cut_piece.ensures.cut none)

pub loop-rest-preserved : goal.loop-rest-preserved
loop-rest-preserved c = λ circuit known is.
    let rows = c.args.rows.now in
    let r = c.loop-rest.invariant circuit known is in
    let piece = c.cut_piece.result.0.now in
    let taken = subst (λ b. OnTrue b (IsTaken (behind rows c.loop-rest.cursor) (behind rows c.take_line.new.cursor) piece c.loop-rest.draft c.take_line.new.draft)) c.if-not-branch.false c.in_ok-take_line.ensures.taken in
    reads-step circuit rows c.args.text.now c.loop-rest.rest.now c.cut_piece.result.1.now piece c.loop-rest.count c.loop-rest.cursor c.take_line.new.cursor c.loop-rest.draft c.take_line.new.draft known r c.cut_piece.ensures.cut c.cut_piece.ensures.shorter taken c.in_ok-take_line.ensures.within

pub returns-clause-ends : goal.returns-clause-ends
returns-clause-ends c = λ circuit known is.
    let r = c.loop-rest.invariant circuit known is in
    let none : length c.loop-rest.rest.now ≡ 0 = grind (arith, nat_tests) in
    (r.typed, reads-all circuit c.args.rows.now c.args.text.now c.loop-rest.rest.now c.loop-rest.count c.loop-rest.cursor c.loop-rest.draft r none)
