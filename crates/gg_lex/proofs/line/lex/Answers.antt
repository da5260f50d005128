use Rattle.std.proofs.Common.{List, sym, ap, ◌∙◌, subst}
use Rattle.gg_lex.specs.Tokens.{token_of}
use Rattle.gg_lex.specs.Lines.{Begins}
use Rattle.gg_lex.proofs.Cuts.{after_token-utf8}
use Rattle.gg_lex.proofs.Readings.{Begins-step, Begins-length, Lexes-stop, Lexes-same}
use Rattle.gg_lex.specs.declared.token.Tok.{Tok}
use Rattle.gg_lex.proofs.line.lex.Goals as goal

pub loop-next-preserved : goal.loop-next-preserved
loop-next-preserved c =
    let next = c.in-Some.next in
    let found = c.in-Some.ensures in (
      after_token-utf8 next.kind c.loop-next.rest.now next.after.now found.size c.loop-next.invariant.0 found.first found.after,
      subst (λ (ts : List Tok). Begins ts c.args.line.now next.after.now) (sym c.in_ok-push.ensures.items)
          (Begins-step c.loop-next.tokens.items c.in_ok-token.token c.args.line.now c.loop-next.rest.now next.after.now next.kind found.size c.loop-next.invariant.1 found.first (c.in_ok-token.ensures ∙ ap (token_of next.kind) found.text) found.after),
    )

pub bad_place-bad-requires : goal.bad_place-bad-requires
bad_place-bad-requires c = Begins-length c.loop-next.tokens.items _ _ c.loop-next.invariant.1

pub returns-clause-only : goal.returns-clause-only
returns-clause-only c = λ ts bad other.
    Lexes-same c.args.line.now c.loop-next.tokens.items ts c.bad_place-bad.result bad
    (Lexes-stop c.loop-next.tokens.items c.args.line.now c.loop-next.rest.now _ c.loop-next.invariant.1 c.in_default.ensures c.bad_place-bad.ensures)
    other
