use Rattle.gg_words.proofs.RangeLaws.{command-within}
use Rattle.gg_words.proofs.laws.numbers_are_in_range.Goals as goal

pub returns : goal.returns
returns c = command-within
