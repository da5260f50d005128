use Rattle.gg_read_row.proofs.WordNames.{name-word}
use Rattle.gg_read_row.proofs.laws.name_is_a_word.Goals as goal

pub returns : goal.returns
returns c = name-word
