use Rattle.std.proofs.Common.{◌≡◌, ◌≢◌, ℕ, ◌<◌, ◌^◌, true≢false, sym, ap, ap₂, ◌∙◌, subst, arith}
use Rattle.std.proofs.lemmas.List.{append_cancel_left}
use Rattle.std.proofs.lemmas.Option.{none-some, same_Some}
use Rattle.std.specs.Bool.{OnFalse}
use Rattle.gg_snap.specs.text.Lines.{head_of, line_of, tail_of}
use Rattle.gg_snap.proofs.text.reading.cell_at.Goals as goal

pub returns-in_default : goal.returns-in_default
returns-in_default c = λ address value low high some fits is.
    let row = c.args.row.now in
    let rest = append_cancel_left (head_of row) c.args.rest.now (tail_of row address value) (sym c.requires.head ∙ is) in
    none-some _ (c.in_default.ensures address value high fits rest)

pub returns-then-not-is_cell : goal.returns-then-not-is_cell
returns-then-not-is_cell c = λ address value low high some fits is.
    let row = c.args.row.now in
    let rest = append_cancel_left (head_of row) c.args.rest.now (tail_of row address value) (sym c.requires.head ∙ is) in
    let same = same_Some _ _ (c.in-Some.ensures address value high fits rest) in
    let a : c.in-Some.address ≡ address = ap (λ (p : ℕ × ℕ). p.0) same in
    let v : c.in-Some.value ≡ value = ap (λ (p : ℕ × ℕ). p.1) same in
    true≢false (sym (c.is_cell.ensures.1 (omega (arith, low, a), omega (arith, high, a), omega (arith, some, v), subst (λ x. x < 2 ^ row.width) (sym v) fits)) ∙ c.if-not-is_cell.true)

pub returns-then-not-branch : goal.returns-then-not-branch
returns-then-not-branch c = λ address value low high some fits is.
    let row = c.args.row.now in
    let rest = append_cancel_left (head_of row) c.args.rest.now (tail_of row address value) (sym c.requires.head ∙ is) in
    let same = same_Some _ _ (c.in-Some.ensures address value high fits rest) in
    let a : c.in-Some.address ≡ address = ap (λ (p : ℕ × ℕ). p.0) same in
    let v : c.in-Some.value ≡ value = ap (λ (p : ℕ × ℕ). p.1) same in
    let other = subst (λ b. OnFalse b (c.args.line.now ≢ line_of row c.in-Some.address c.in-Some.value)) c.if-not-branch.true c.in_ok-is_line.ensures.1 in
    other (is ∙ ap₂ (λ x y. line_of row x y) (sym a) (sym v))
