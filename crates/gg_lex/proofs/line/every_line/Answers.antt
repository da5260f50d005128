use Rattle.gg_lex.proofs.EveryLine.{every_line}
use Rattle.gg_lex.proofs.line.every_line.Goals as goal

pub returns : goal.returns
returns c = every_line
