use Rattle.gg_net.proofs.MarkingsLemmas.LayoutLemmas.{has-layout}
use Rattle.gg_net.proofs.markings.marking.each_has_layout.Goals as goal

pub returns : goal.returns
returns c = λ frame wired. has-layout frame wired
