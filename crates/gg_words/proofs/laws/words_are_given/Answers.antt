use Rattle.gg_words.proofs.TakenLaws.{taken-names}
use Rattle.gg_words.proofs.laws.words_are_given.Goals as goal

pub returns : goal.returns
returns c = taken-names
