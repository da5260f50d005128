use Rattle.gg_cut_plan.proofs.BridgeLemmas.{IsFew, entry-few, entry-judged, entry-stop}
use Rattle.gg_cut_rules.proofs.bridges.entries_stand.Goals as goal

few : (c : goal.After-entry_stands-arg-1) → IsFew (record { names = c.loop-entry.before.names; sees = c.loop-entry.before.sees; drives = c.loop-entry.before.drives }) c.entry-item.result
few c = entry-few _ _ _ _ c.args.entries.now c.loop-entry.entry-index _ c.entry-item.result c.loop-entry-test.true c.entry-item.is c.loop-entry.invariant

pub entry_stands-requires-clause-names : goal.entry_stands-requires-clause-names
entry_stands-requires-clause-names c = (few c).names

pub entry_stands-requires-clause-seen : goal.entry_stands-requires-clause-seen
entry_stands-requires-clause-seen c = (few c).seen

pub entry_stands-requires-clause-driven : goal.entry_stands-requires-clause-driven
entry_stands-requires-clause-driven c = (few c).driven

pub returns-in-Err : goal.returns-in-Err
returns-in-Err c =
    entry-stop c.args.piece.now c.args.sides.now.outs.now c.args.models.now (record { names = c.args.before.now.names; sees = c.args.before.now.sees; drives = c.args.before.now.drives })
    (record { names = c.loop-entry.before.names; sees = c.loop-entry.before.sees; drives = c.loop-entry.before.drives }) c.args.entries.now c.loop-entry.entry-index c.entry-item.result c.in-Err.cause
    c.loop-entry-test.true c.entry-item.is c.loop-entry.invariant.faults c.in-Err.ensures.told

pub loop-entry-preserved : goal.loop-entry-preserved
loop-entry-preserved c =
    entry-judged c.args.piece.now c.args.sides.now.outs.now c.args.models.now (record { names = c.args.before.now.names; sees = c.args.before.now.sees; drives = c.args.before.now.drives })
    c.args.entries.now c.loop-entry.entry-index (record { names = c.loop-entry.before.names; sees = c.loop-entry.before.sees; drives = c.loop-entry.before.drives })
    (record { names = c.entry_stands.new.before.names; sees = c.entry_stands.new.before.sees; drives = c.entry_stands.new.before.drives }) c.entry-item.result
    c.loop-entry-test.true c.entry-item.is c.loop-entry.invariant c.in-Ok.ensures.told c.in-Ok.ensures.names c.in-Ok.ensures.sees c.in-Ok.ensures.drives
