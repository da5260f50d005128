use Rattle.gg_flat.specs.Run.{opening_start}
use Rattle.gg_order.proofs.RunsLemmas.UniqueLemmas.{IsRunFrom-once}
use Rattle.gg_order.proofs.runs.laws.run_once.Goals as goal

pub returns-clause-from : goal.returns-clause-from
returns-clause-from c = IsRunFrom-once

pub returns-clause-opening : goal.returns-clause-opening
returns-clause-opening c = λ circuit order. IsRunFrom-once circuit order (opening_start circuit)
