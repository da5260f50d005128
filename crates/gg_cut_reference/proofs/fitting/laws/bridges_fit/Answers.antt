use Rattle.std.proofs.Common.{◌-◌, length, take}
use Rattle.gg_cut_reference.proofs.FittingLemmas.FittingLemmas.{all-fit}
use Rattle.gg_cut_reference.proofs.fitting.laws.bridges_fit.Goals as goal

pub returns : goal.returns
returns c = λ circuit stops models entries none. all-fit circuit (take (length circuit.outs - stops) circuit.outs) models entries none
