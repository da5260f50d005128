use Rattle.gg_net.proofs.MarkingsLemmas.PutsLemmas.{puts-within, step-fires, step-others, one-held, front-grows}
use Rattle.gg_net.proofs.markings.marking.puts_by_step.Goals as goal

pub returns-clause-fires : goal.returns-clause-fires
returns-clause-fires c = λ flow old new d kept step. step-fires flow old kept d new step

pub returns-clause-others : goal.returns-clause-others
returns-clause-others c = λ flow old new event d kept step known other. step-others flow old kept event new d step known other

pub returns-clause-within : goal.returns-clause-within
returns-clause-within c = λ flow net d kept known. puts-within flow net kept d known

pub returns-clause-held : goal.returns-clause-held
returns-clause-held c = λ flow old new d kept step. one-held flow old new kept d step

pub returns-clause-front : goal.returns-clause-front
returns-clause-front c = λ flow old new d kept step. front-grows flow old new kept d step
