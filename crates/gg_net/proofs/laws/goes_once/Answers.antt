-- proofs/laws/goes_once/Answers.antt
use Rattle.gg_net.proofs.GoesLemmas.{goes, goes-once}
use Rattle.gg_net.proofs.TableLemmas.{never}
use Rattle.gg_net.proofs.laws.goes_once.Goals as goal

pub returns-clause-goes : goal.returns-clause-goes
returns-clause-goes c = λ flow net event kept ready. goes flow net kept event ready

pub returns-clause-once : goal.returns-clause-once
returns-clause-once c = λ flow net event one other kept step same. goes-once flow net kept event one other step same

pub returns-clause-never : goal.returns-clause-never
returns-clause-never c = λ net event cause ready refused. never net event cause ready refused
