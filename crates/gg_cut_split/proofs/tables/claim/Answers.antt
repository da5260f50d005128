use Rattle.std.proofs.Common.{arith}
use Rattle.gg_cut_split.proofs.TableLemmas.{ClaimedTo-end}
use Rattle.gg_cut_split.proofs.tables.claim.Goals as goal

pub returns-clause-owners : goal.returns-clause-owners
returns-clause-owners c =
    ClaimedTo-end c.args.first c.loop-signal.signal c.args.end c.args.number c.args.owners.now c.loop-signal.owners c.loop-signal.invariant
    (let below = c.loop-signal.auto.signal-end c.requires.range in let past = c.loop-signal-test.false in omega (arith, below, past))
