use Rattle.golden_commands.proofs.HandedLemmas.{added-all, added-next, added-none, are-handed, have-models}
use Rattle.golden_commands.proofs.handed.models_of.Goals as goal

pub loop-bridge-init : goal.loop-bridge-init
loop-bridge-init g c = added-none g.B.Bridge.piece c.args.bridges.now c.new-models.result c.new-models.ensures

pub loop-bridge-preserved : goal.loop-bridge-preserved
loop-bridge-preserved g c =
    added-next g.B.Bridge.piece c.args.bridges.now c.loop-bridge.bridge-index c.loop-bridge.models c.add_model.new.models c.bridge-item.result c.loop-bridge-test.true c.bridge-item.is c.loop-bridge.invariant
    c.in_ok-add_model.ensures.added c.in_ok-add_model.ensures.model

pub returns-clause-handed : goal.returns-clause-handed
returns-clause-handed g c =
    are-handed g.B.Bridge.piece c.args.bridges.now g.B.Bridge.state c.requires c.loop-bridge.models (added-all g.B.Bridge.piece c.args.bridges.now c.loop-bridge.bridge-index c.loop-bridge.models c.loop-bridge-test.false c.loop-bridge.invariant)

pub returns-clause-models : goal.returns-clause-models
returns-clause-models g c =
    have-models g.B.Bridge.piece c.args.bridges.now g.B.Bridge.state c.requires c.loop-bridge.models (added-all g.B.Bridge.piece c.args.bridges.now c.loop-bridge.bridge-index c.loop-bridge.models c.loop-bridge-test.false c.loop-bridge.invariant)
