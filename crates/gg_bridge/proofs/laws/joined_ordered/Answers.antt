use Rattle.gg_bridge.proofs.OrderedLemmas.{joined_order, whole-ordered}
use Rattle.gg_bridge.proofs.laws.joined_ordered.Goals as goal

pub returns : goal.returns
returns c = λ one front model sees drives order can formed ordered is.
    record { order = joined_order one front model sees drives order can formed ordered is; is = whole-ordered one front model sees drives order can formed ordered is }
