use Rattle.std.proofs.Common.{refl}
use Rattle.clap.specs.Matches.{found_of}
use Rattle.gg_words.proofs.TextLaws.{first-some, first-none}
use Rattle.gg_words.proofs.reading.number_of.Goals as goal

pub returns-in-None : goal.returns-in-None
returns-in-None c = rw (first-none (found_of c.args.matches.now) c.args.id.now _ c.get_str.ensures c.in-None.is) refl

pub returns-in-Some : goal.returns-in-Some
returns-in-Some c = rw (first-some (found_of c.args.matches.now) c.args.id.now _ c.get_str.ensures c.in-Some.text c.in-Some.is) c.judged.ensures
