use Rattle.std.proofs.Common.{List, subst}
use Rattle.gg_lex.specs.declared.token.Tok.{Tok}
use Rattle.gg_read.specs.inside.Stages.{line_of, IsMissed}
use Rattle.gg_read.proofs.TextSteps.{blank_step, row_step, miss_step}
use Rattle.gg_read.proofs.text.next_stage.Goals as goal

pub returns-then-is_blank : goal.returns-then-is_blank
returns-then-is_blank c =
    blank_step c.args.stage c.args.number c.args.line.now (line_of c.in-Ok.lexed) c.requires.stage c.in-Ok.ensures.answer c.if-is_blank.ensures

pub returns-in-Ok-placed : goal.returns-in-Ok-placed
returns-in-Ok-placed c =
    row_step c.args.stage c.args.number c.args.line.now (line_of c.in-Ok.lexed) c.in-Ok-placed.next c.in-Ok.ensures.answer c.in-Ok-placed.ensures

pub returns : goal.returns
returns c =
    let cause = subst (λ (ts : List Tok). IsMissed c.in-Err-placed.fault c.args.number ts c.missed.result) c.as_slice.ensures.value c.missed.ensures in
    miss_step c.args.stage c.args.number c.args.line.now (line_of c.in-Ok.lexed) c.in-Err-placed.fault c.missed.result c.in-Ok.ensures.answer c.if-is_blank.ensures c.in-Err-placed.ensures cause
