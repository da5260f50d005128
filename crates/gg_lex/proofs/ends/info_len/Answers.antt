use Rattle.std.proofs.Common.{rules}
use Rattle.gg_lex.proofs.LineEnds.{info_from_bracket}
use Rattle.gg_lex.proofs.ends.info_len.Goals as goal

pub returns-in-Some : goal.returns-in-Some
returns-in-Some c = info_from_bracket c.args.bytes.now _ (search rules) c.in-Some.ensures
