use Rattle.gg_cut_plan.proofs.ChannelLemmas.{wires-signals}
use Rattle.gg_cut_plan.proofs.laws.channels_agree.Goals as goal

pub returns : goal.returns
returns c = wires-signals
