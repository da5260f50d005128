use Rattle.gg_cut_plan.proofs.BridgeLemmas.{AreJudged}
use Rattle.gg_cut_rules.proofs.bridges.entries_stand.Given as goal

abbrev pub invariant-loop-entry : goal.invariant-loop-entry
invariant-loop-entry l =
    AreJudged l.piece l.sides.outs.now l.models (record { names = l.initial.before.names; sees = l.initial.before.sees; drives = l.initial.before.drives }) l.entries l.entry-index (record { names = l.before.names; sees = l.before.sees; drives = l.before.drives })
