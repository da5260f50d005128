use Rattle.std.proofs.Common.{ap, ◌∙◌}
use Rattle.std.proofs.lemmas.List.{get_or-drop}
use Rattle.gg_flat.specs.Line.{value_at}
use Rattle.gg_snap.proofs.PipeLemmas.{numbers-known, tokens-are}
use Rattle.gg_snap.proofs.pipes.tokens_of.Goals as goal

pub tokens_at-requires : goal.tokens_at-requires
tokens_at-requires c = numbers-known c.args.channels.now c.args.signals c.deref.result.now c.requires.known (c.deref.ensures.value ∙ c.in_ok-numbers.ensures)

pub returns : goal.returns
returns c =
    tokens-are c.args.channels.now c.args.signals c.deref.result.now c.requires.known (c.deref.ensures.value ∙ c.in_ok-numbers.ensures) c.args.held c.args.registers.now c.from_place-pipes.result.now c.in_ok-tokens.tokens.items
    (λ i. ap (λ l. value_at l i) c.from_place-pipes.ensures ∙ get_or-drop c.args.held c.args.registers.now i 0) c.in_ok-tokens.ensures
