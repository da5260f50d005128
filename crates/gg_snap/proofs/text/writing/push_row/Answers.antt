use Rattle.std.proofs.Common.{◌≡◌, ◌++◌, ℕ, List, string_bytes, sym, ap, ◌∙◌, arith, append_assoc}
use Rattle.std.specs.List.{concat, flat_map, range_with_len}
use Rattle.gg_snap.specs.text.Lines.{shown, value_of}
use Rattle.gg_snap.proofs.TextLemmas.DraftLemmas.{has-value}
use Rattle.gg_snap.proofs.TextLemmas.WriteLemmas.{row-more}
use Rattle.gg_snap.proofs.text.writing.push_row.Goals as goal

pub value_of-requires : goal.value_of-requires
value_of-requires c =
    let known = c.requires.known in
    let row = c.args.row.now in
    has-value known.0 c.args.state.now known.2 row.width row.count c.loop-address.address row.at known.1.at c.loop-address-test.true

pub loop-address-preserved : goal.loop-address-preserved
loop-address-preserved c =
    let row = c.args.row.now in
    let state = c.args.state.now in
    let start = string_bytes c.args.text.now in
    let f : ℕ → List (List ℕ) = λ a. shown row a (value_of state row.at a) in
    let n = c.loop-address.address in
    c.in_ok-push_shown.ensures
    ∙ ap (λ v. string_bytes c.loop-address.text ++ concat (shown row n v)) c.value_of.ensures
    ∙ ap (λ t. t ++ concat (f n)) c.loop-address.invariant
    ∙ append_assoc start (concat (flat_map f (range_with_len 0 n))) (concat (f n))
    ∙ ap (λ t. start ++ t) (sym (row-more f n))

pub returns : goal.returns
returns c =
    let row = c.args.row.now in
    let state = c.args.state.now in
    let f : ℕ → List (List ℕ) = λ a. shown row a (value_of state row.at a) in
    let low = c.loop-address-test.false in
    let e : c.loop-address.address ≡ row.count = omega (arith, low, c.loop-address.auto.address-end) in
    c.loop-address.invariant ∙ ap (λ n. string_bytes c.args.text.now ++ concat (flat_map f (range_with_len 0 n))) e
