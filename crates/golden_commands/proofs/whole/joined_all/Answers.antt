use Rattle.std.proofs.Common.{refl, ◌∙◌}
use Rattle.golden_commands.proofs.JoinedLemmas.{joined-all, joined-first, joined-next, joined-then}
use Rattle.golden_commands.proofs.whole.joined_all.Goals as goal

pub loop-entry-init : goal.loop-entry-init
loop-entry-init c = record { can = c.requires.can; same = refl }

pub joined_with-requires-clause-can : goal.joined_with-requires-clause-can
joined_with-requires-clause-can c =
    joined-first c.args.models.now c.loop-entry.made.circuit c.args.entries.now c.loop-entry.entry-index c.entry-item.result c.loop-entry-test.true c.entry-item.is c.loop-entry.invariant.can

pub joined_with-requires-clause-models : goal.joined_with-requires-clause-models
joined_with-requires-clause-models c = c.requires.models

pub loop-entry-preserved : goal.loop-entry-preserved
loop-entry-preserved c =
    record {
      can = joined-next c.args.models.now c.loop-entry.made.circuit c.in_ok-next.next.circuit c.args.entries.now c.loop-entry.entry-index c.entry-item.result c.loop-entry-test.true c.entry-item.is c.in_ok-next.ensures c.loop-entry.invariant.can;
      same = joined-then c.args.models.now c.loop-entry.made.circuit c.in_ok-next.next.circuit c.args.entries.now c.loop-entry.entry-index c.entry-item.result c.loop-entry-test.true c.entry-item.is c.in_ok-next.ensures ∙ c.loop-entry.invariant.same;
    }

pub returns : goal.returns
returns c = joined-all c.args.models.now c.loop-entry.made.circuit c.args.entries.now c.loop-entry.entry-index c.loop-entry-test.false ∙ c.loop-entry.invariant.same
