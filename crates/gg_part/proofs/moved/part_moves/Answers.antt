use Rattle.gg_part.proofs.MovedLemmas.{part-moved}
use Rattle.gg_part.proofs.moved.part_moves.Goals as goal

pub returns : goal.returns
returns c = part-moved
