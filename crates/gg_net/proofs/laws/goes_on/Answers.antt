-- proofs/laws/goes_on/Answers.antt
use Rattle.gg_net.proofs.ProgressLemmas.{goes-on}
use Rattle.gg_net.proofs.laws.goes_on.Goals as goal

pub returns : goal.returns
returns c = λ flow net m kept there lt. goes-on flow net m kept there lt
