use Rattle.gg_lex.proofs.Readings.{Lexes-same}
use Rattle.gg_lex.proofs.line.one_reading.Goals as goal

pub returns : goal.returns
returns c = Lexes-same
