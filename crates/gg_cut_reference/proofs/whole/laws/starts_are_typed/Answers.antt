use Rattle.gg_cut_reference.specs.Made.{plan_reference}
use Rattle.gg_cut_reference.proofs.WholeLemmas.StateLemmas.{states-with}
use Rattle.gg_cut_reference.proofs.whole.laws.starts_are_typed.Goals as goal

pub returns : goal.returns
returns c = λ design request models start can typed. states-with models (plan_reference design request) start.state request.bridges typed
