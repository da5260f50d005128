use Rattle.std.proofs.Common.{ap}
use Rattle.gg_flat.specs.Run.{Start}
use Rattle.gg_flat.specs.State.{State}
use Rattle.gg_cut_plan.specs.Clocks.{ratios_of}
use Rattle.gg_cut_reference.specs.Made.{plan_reference}
use Rattle.gg_cut_reference.proofs.WholeLemmas.StateLemmas.{zeros-with}
use Rattle.gg_cut_reference.proofs.whole.laws.zeros_stay.Goals as goal

pub returns : goal.returns
returns c = λ design request models.
    ap (λ (state : State). let start : Start = record { cycle = 0; state = state; ratios = ratios_of design.tree request } in start) (zeros-with models (plan_reference design request) request.bridges)
