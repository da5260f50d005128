use Rattle.gg_fame5.proofs.SharedLemmas.{machines_same}
use Rattle.gg_fame5.proofs.shared.SharedHost.token.Goals as goal

pub returns-clause-same : goal.returns-clause-same
returns-clause-same c = machines_same c.args.self.now c.token_by.new.self c.token_by.ensures.program c.token_by.ensures.lanes
