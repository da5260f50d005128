use Rattle.gg_measure.proofs.NetLemmas.{can-run, shape-of, allowed-of, begun-of, left-is}
use Rattle.gg_measure.proofs.FallLemmas.{opening-net-left}
use Rattle.gg_measure.proofs.laws.nets_are_allowed.Goals as goal

pub returns-clause-runs : goal.returns-clause-runs
returns-clause-runs c = λ flow net layout kept has. (can-run flow net kept layout has, shape-of flow net kept layout has)

pub returns-clause-allowed : goal.returns-clause-allowed
returns-clause-allowed c = λ flow net layout kept has. allowed-of flow net kept layout has

pub returns-clause-begun : goal.returns-clause-begun
returns-clause-begun c = λ flow net layout kept has. begun-of flow net kept layout has

pub returns-clause-measure : goal.returns-clause-measure
returns-clause-measure c = λ flow net layout kept has. left-is flow net kept layout has

pub returns-clause-opening : goal.returns-clause-opening
returns-clause-opening c = λ flow net layout kept has opens. opening-net-left flow net layout kept has opens
