use Rattle.std.proofs.Common.{◌∙◌, refl}
use Rattle.clap.specs.Matches.{found_of}
use Rattle.gg_words.proofs.TextLaws.{text-given}
use Rattle.gg_words.proofs.reading.name_of.Goals as goal

pub returns : goal.returns
returns c = c.from.ensures ∙ c.in_ok-from_str.ensures.ok ∙ text-given (found_of c.args.matches.now) c.args.id.now _ c.get_str.ensures _ c.unwrap_or.result refl c.unwrap_or.ensures
