use Rattle.gg_part.proofs.AlongLemmas.{IsInOrder-along}
use Rattle.gg_flat.proofs.NumberLemmas.{IsOrder-numbers}
use Rattle.gg_part.proofs.laws.part_in_order.Goals as goal

pub returns-clause-along : goal.returns-clause-along
returns-clause-along c = IsInOrder-along

pub returns-clause-order : goal.returns-clause-order
returns-clause-order c = IsOrder-numbers
