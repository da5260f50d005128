use Rattle.std.proofs.Common.{refl}
use Rattle.gg_cut_reference.proofs.laws.outputs_kept.Goals as goal

pub returns : goal.returns
returns c = λ design request. refl
