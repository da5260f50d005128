use Rattle.std.proofs.Common.{sym, ap, ◌∙◌, subst}
use Rattle.gg_flat_tree.specs.Tree.{InstanceTree}
use Rattle.golden_commands.specs.inside.Replayed.{AreFewNames}
use Rattle.golden_commands.specs.Replayed.{plan_naming}
use Rattle.golden_commands.specs.Partition.{to_run}
use Rattle.golden_commands.proofs.FedLemmas.{few-named, to-replay}
use Rattle.golden_commands.proofs.PartitionLemmas.{designs-agree}
use Rattle.golden.proofs.SteppedLemmas.{steps-told}
use Rattle.golden.proofs.replay.replay_bytes.Goals as goal

pub names_of-requires : goal.names_of-requires
names_of-requires g c =
    let case = c.args.fed.now.case in
    subst (λ (t : InstanceTree). AreFewNames case.cut.plan t) (sym c.tree.ensures.tree) (few-named (to_run c.args.models.now) c.requires.fed.0 c.requires.fed.1 c.requires.fed.2 c.requires.fed.3 c.args.fed.now c.requires.fed.4)

pub replay_net-requires-clause-few : goal.replay_net-requires-clause-few
replay_net-requires-clause-few g c κs within = (few-named (to_run c.args.models.now) c.requires.fed.0 c.requires.fed.1 c.requires.fed.2 c.requires.fed.3 c.args.fed.now c.requires.fed.4).channels

pub replay_net-requires-clause-run : goal.replay_net-requires-clause-run
replay_net-requires-clause-run g c κs within = to-replay (to_run c.args.models.now) c.requires.fed.0 c.requires.fed.1 c.requires.fed.2 c.requires.fed.3 c.args.fed.now c.requires.fed.4

pub returns-clause-ended : goal.returns-clause-ended
returns-clause-ended g c =
    let d = c.one_meaning.ensures in
    let case = c.args.fed.now.case in
    λ circuit partition trace capacity is.
    steps-told (to_run c.args.models.now) (designs-agree d.flat d.tree) c.run_once.ensures.from circuit partition trace capacity c.args.steps.now c.args.fed.now _ _ is
    (c.in_ok-names.ensures ∙ ap (λ (t : InstanceTree). plan_naming case.cut.plan t) c.tree.ensures.tree)
    (c.as_slice.ensures.value ∙ c.in_ok-events.ensures) c.replay_net.ensures.ended
