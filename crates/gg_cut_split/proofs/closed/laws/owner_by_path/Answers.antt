use Rattle.gg_cut_split.proofs.ClosedLemmas.OwnerLemmas.{signal-owner, instance-owner, memory-owner, machine-name}
use Rattle.gg_cut_split.proofs.closed.laws.owner_by_path.Goals as goal

pub returns-clause-signals : goal.returns-clause-signals
returns-clause-signals c = λ design request s m is keeps none lt. signal-owner design request keeps none s m lt

pub returns-clause-instances : goal.returns-clause-instances
returns-clause-instances c = λ design request k m is keeps none lt. instance-owner design request keeps none k m lt

pub returns-clause-names : goal.returns-clause-names
returns-clause-names c = λ design request k is keeps lt. machine-name design request k keeps lt

pub returns-clause-memories : goal.returns-clause-memories
returns-clause-memories c = λ design request j m is keeps none lt. memory-owner design request keeps none j m lt
