use Rattle.std.proofs.Common.{refl}
use Rattle.clap.specs.Matches.{found_of}
use Rattle.gg_words.proofs.TextLaws.{text-given}
use Rattle.gg_words.proofs.reading.number_at.Goals as goal

pub returns : goal.returns
returns c = rw (← text-given (found_of c.args.matches.now) c.args.id.now _ c.get_str.ensures _ c.unwrap_or.result refl c.unwrap_or.ensures) c.judged.ensures
