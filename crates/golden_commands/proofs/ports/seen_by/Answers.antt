use Rattle.golden_commands.proofs.OpenLemmas.{listed-all, listed-next, listed-none, listed-same}
use Rattle.golden_commands.proofs.ports.seen_by.Goals as goal

pub loop-entry-init : goal.loop-entry-init
loop-entry-init c = listed-none (λ entry. entry.sees) c.args.bridges.now c.new-set.result c.new-set.ensures

pub loop-entry-preserved : goal.loop-entry-preserved
loop-entry-preserved c =
    listed-next (λ entry. entry.sees) c.args.bridges.now c.loop-entry.entry-index c.loop-entry.set c.include_all.new.set c.entry-item.result c.loop-entry-test.true c.entry-item.is c.loop-entry.invariant
    (listed-same c.loop-entry.set c.include_all.new.set c.as_slice.result.now c.entry-item.result.sees c.as_slice.ensures c.in_ok-include_all.ensures)

pub returns : goal.returns
returns c = listed-all (λ entry. entry.sees) c.args.bridges.now c.loop-entry.entry-index c.loop-entry.set c.loop-entry-test.false c.loop-entry.invariant
