use Rattle.gg_memunit.proofs.ThroughLemmas.{served-through}
use Rattle.gg_memunit.proofs.laws.served_through.Goals as goal

pub returns : goal.returns
returns c = λ edges piece state memory typed latches signals settled. served-through edges piece state latches signals memory typed settled
