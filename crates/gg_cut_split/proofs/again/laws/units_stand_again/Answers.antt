use Rattle.std.proofs.Common.{sym, subst}
use Rattle.gg_cut_plan.specs.Listed.{listed_of}
use Rattle.gg_cut_split.specs.inside.Again.{IsUnitAgain}
use Rattle.gg_cut_split.proofs.AgainLemmas.AgainLemmas.{unit-again}
use Rattle.gg_cut_split.proofs.AgainLemmas.PairLemmas.{paired}
use Rattle.gg_cut_split.proofs.again.laws.units_stand_again.Goals as goal

pub returns : goal.returns
returns c = λ design request m n meant keeps none differ led.
    let p = paired design request meant keeps none m n differ led in
    let listed = listed_of design.tree request in
    subst (λ a. IsUnitAgain design listed a n) (sym p.first) (subst (IsUnitAgain design listed _) (sym p.second)
    (unit-again design listed p.u p.v p.one p.other p.pair))
