use Rattle.std.proofs.Common.{◌≡◌, ℕ, List, ◌∷◌, ◌++◌, get_or, take, string_bytes, codes, append_assoc, arith, sym, ap, ◌∙◌}
use Rattle.std.proofs.lemmas.List.{take_all, take_more, flat_map_more}
use Rattle.gg_trace.specs.Printing.{hex_digits, digit_count}
use Rattle.gg_replay.specs.ReplayText.{tokens_text}
use Rattle.gg_replay.proofs.line.channel_line.Goals as goal

pub loop-token-preserved : goal.loop-token-preserved
loop-token-preserved c =
    let written : ℕ → List ℕ = λ token. 32 ∷ hex_digits (digit_count c.args.width) token in
    let front = string_bytes c.in_ok-line.line in
    let tokens = c.args.tokens.now in
    let i = c.loop-token.token-index in
    let token = get_or tokens i 0 in
    c.in_ok-push_token.ensures
    ∙ ap (λ l. l ++ written token) c.loop-token.invariant
    ∙ flat_map_more written front (take i tokens) token
    ∙ ap (λ l. front ++ tokens_text c.args.width l) (sym (take_more tokens i 0 c.loop-token-test.true))

pub returns : goal.returns
returns c =
    let written = tokens_text c.args.width c.args.tokens.now in
    let front = string_bytes c.in_ok-line.line in
    let all = take_all c.loop-token.token-index c.args.tokens.now (omega (arith, c.loop-token-test.false)) in
    let line : string_bytes c.loop-token.line ≡ front ++ written = c.loop-token.invariant ∙ ap (λ l. front ++ tokens_text c.args.width l) all in
    c.in_ok-push_str.ensures.bytes ∙ ap (λ l. l ++ codes "\n") (line ∙ ap (λ l. l ++ written) c.in_ok-line.ensures) ∙ simp append_assoc
