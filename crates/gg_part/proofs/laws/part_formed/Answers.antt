use Rattle.gg_part.proofs.FormedLemmas.{IsWellFormed-part}
use Rattle.gg_part.proofs.laws.part_formed.Goals as goal

pub returns : goal.returns
returns c = IsWellFormed-part
