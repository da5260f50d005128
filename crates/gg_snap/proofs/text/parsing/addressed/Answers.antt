use Rattle.std.proofs.Common.{ℕ, List, Some, decimal, drop, sym, ap, ap₂, ◌∙◌, arith}
use Rattle.std.proofs.lemmas.Option.{none-some, same_Some}
use Rattle.gg_trace.specs.Printing.{hex_digits, digit_count}
use Rattle.gg_snap.proofs.TextLemmas.FeedLemmas.{decimal-no}
use Rattle.gg_snap.proofs.TextLemmas.PieceLemmas.{cut-at_blank}
use Rattle.gg_snap.proofs.text.parsing.addressed.Goals as goal

pub returns-in_err-rest : goal.returns-in_err-rest
returns-in_err-rest c = λ address width value low some narrow fits is.
    let cut = cut-at_blank c.args.text.now (decimal address) (hex_digits (digit_count width) value) c.len_before.result is (decimal-no 32 address (omega arith)) c.len_before.ensures.before c.len_before.ensures.found in
    absurd (c.in_err-rest.ensures (hex_digits (digit_count width) value) (c.split_at.ensures.back ∙ cut.1))

pub returns-in_err-address : goal.returns-in_err-address
returns-in_err-address c = λ address width value low some narrow fits is.
    let cut = cut-at_blank c.args.text.now (decimal address) (hex_digits (digit_count width) value) c.len_before.result is (decimal-no 32 address (omega arith)) c.len_before.ensures.before c.len_before.ensures.found in
    absurd (none-some address (c.in_err-address.ensures address low (c.split_at.ensures.front ∙ cut.0)))

pub returns-in_err-value : goal.returns-in_err-value
returns-in_err-value c = λ address width value low some narrow fits is.
    let cut = cut-at_blank c.args.text.now (decimal address) (hex_digits (digit_count width) value) c.len_before.result is (decimal-no 32 address (omega arith)) c.len_before.ensures.before c.len_before.ensures.found in
    let rest = ap (λ (l : List ℕ). drop 1 l) (sym c.in_ok-rest.ensures ∙ c.split_at.ensures.back ∙ cut.1) in
    absurd (none-some value (c.in_err-value.ensures width value some narrow fits rest))

pub returns : goal.returns
returns c = λ address width value low some narrow fits is.
    let cut = cut-at_blank c.args.text.now (decimal address) (hex_digits (digit_count width) value) c.len_before.result is (decimal-no 32 address (omega arith)) c.len_before.ensures.before c.len_before.ensures.found in
    let rest = ap (λ (l : List ℕ). drop 1 l) (sym c.in_ok-rest.ensures ∙ c.split_at.ensures.back ∙ cut.1) in
    let one = same_Some _ _ (c.in_ok-address.ensures address low (c.split_at.ensures.front ∙ cut.0)) in
    let two = same_Some _ _ (c.in_ok-value.ensures width value some narrow fits rest) in
    ap₂ (λ a v. Some (a, v)) one two
