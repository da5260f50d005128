use Rattle.std.proofs.lemmas.List.{take_rest}
use Rattle.gg_lex.proofs.LineEnds.{IsEnd-turn, IsEnd-stop}
use Rattle.gg_lex.proofs.ends.is_end.Goals as goal

pub loop-length-preserved : goal.loop-length-preserved
loop-length-preserved c =
    IsEnd-turn _ _ _ _ _ c.loop-length.invariant c.skip_blanks-start.ensures c.in-Some.ensures (take_rest c.skip_blanks-start.result.now c.in-Some.length)

pub returns-in-None : goal.returns-in-None
returns-in-None c =
    IsEnd-stop _ _ _ _ c.loop-length.invariant c.skip_blanks-start.ensures c.in-None.ensures c.is_comment.ensures
