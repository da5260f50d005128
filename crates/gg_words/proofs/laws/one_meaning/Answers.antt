use Rattle.gg_words.proofs.ApartLaws.{command-apart}
use Rattle.gg_words.proofs.laws.one_meaning.Goals as goal

pub returns-clause-apart : goal.returns-clause-apart
returns-clause-apart c = command-apart
