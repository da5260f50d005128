use Rattle.gg_front.proofs.MeaningLemmas.{means-ok}
use Rattle.gg_front.proofs.front_end.front.Goals as goal

pub returns-clause-ok : goal.returns-clause-ok
returns-clause-ok c =
    means-ok c.args.bytes.now c.in_ok-circuit.circuit c.design_of.result c.in_ok-circuit.ensures.spelt c.in_ok-circuit.ensures.faultless
    c.design_of.ensures.accepted c.design_of.ensures.flat c.design_of.ensures.formed c.design_of.ensures.grown
