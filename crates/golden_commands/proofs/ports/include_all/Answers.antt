use Rattle.golden_commands.proofs.OpenLemmas.{more-all, more-next, more-none}
use Rattle.golden_commands.proofs.ports.include_all.Goals as goal

pub loop-name-init : goal.loop-name-init
loop-name-init c = more-none c.args.set.now c.args.names.now

pub loop-name-preserved : goal.loop-name-preserved
loop-name-preserved c =
    more-next c.args.set.now c.args.names.now c.loop-name.name-index c.loop-name.set c.include.new.set c.name-item.result c.loop-name-test.true c.name-item.is c.loop-name.invariant c.in_ok-include.ensures

pub returns : goal.returns
returns c = more-all c.args.set.now c.args.names.now c.loop-name.name-index c.loop-name.set c.loop-name-test.false c.loop-name.invariant
