use Rattle.std.proofs.Common.{◌≡◌, suc, ◌<◌, ◌+◌, ◌∷◌, length, take, drop, sym, ap, ap₂, ◌∙◌, arith}
use Rattle.gg_snap.specs.text.Standing.{pieces}
use Rattle.gg_snap.proofs.TextLemmas.PieceLemmas.{cut-at_feed, cut-last}
use Rattle.gg_snap.proofs.text.cutting.cut_piece.Goals as goal

pub returns-then-len-text-clause-cut : goal.returns-then-len-text-clause-cut
returns-then-len-text-clause-cut c =
    let whole = c.if-len-text.true in
    cut-last c.args.text.now c.requires (λ k lt e. c.len_before-len.ensures.before k (omega (arith, whole, lt)) e)

pub returns-clause-cut : goal.returns-clause-cut
returns-clause-cut c =
    let text = c.args.text.now in
    let n = c.len_before-len.result in
    let inside : n < length text = omega (arith, c.len_before-len.ensures.within, c.if-len-text.false) in
    let e : suc n ≡ n + 1 = omega arith in
    cut-at_feed text n inside c.len_before-len.ensures.before (c.len_before-len.ensures.found inside)
    ∙ ap₂ (λ l t. l ∷ pieces t) (ap (λ k. take k text) e ∙ sym c.split_at.ensures.front) (ap (λ k. drop k text) e ∙ sym c.split_at.ensures.back)
