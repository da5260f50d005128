use Rattle.gg_cut_reference.proofs.FittingLemmas.AttachLemmas.{all-can-attach}
use Rattle.gg_cut_reference.proofs.fitting.laws.bridges_attach.Goals as goal

pub returns : goal.returns
returns c = λ circuit outs models one seen_at driven_at entries ports are fit. all-can-attach circuit outs models one seen_at driven_at ports are entries fit
