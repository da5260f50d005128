-- proofs/laws/depends_on_reached/Answers.antt
use Rattle.gg_order.proofs.RunsLemmas.DependLemmas.{depends-reached}
use Rattle.gg_order.proofs.runs.laws.depends_on_reached.Goals as goal

pub returns : goal.returns
returns c = depends-reached
