use Rattle.std.proofs.Common.{Option, Some, None, MatchOption, ◌∙◌}
use Rattle.gg_snap.proofs.TextLemmas.LineLemmas.{after-head, before-head, head-rest}
use Rattle.gg_snap.proofs.text.parsing.after_head.Goals as goal

weaker : {A P P' : Type 0} {Q Q' : A → Type 0} (o : Option A) → MatchOption o P Q → (P → P') → ((x : A) → Q x → Q' x) → MatchOption o P' Q'
weaker None h f g = f h
weaker (Some x) h f g = g x h

pub returns : goal.returns
returns c =
    let row = c.args.row.now in
    let line = c.args.line.now in
    let two = c.in_ok-rest-2.rest.now in
    let is = head-rest row line c.as_bytes.result.now c.as_bytes-2.result.now c.in_ok-rest.rest.now two (c.as_bytes.ensures.value ∙ c.word_of.ensures) c.as_bytes-2.ensures c.in_ok-rest.ensures c.in_ok-rest-2.ensures in
    weaker c.strip-3.result c.strip-3.ensures (λ none rest e. none rest (after-head row line two rest is e)) (λ rest e. before-head row line two rest.now is e)
