use Rattle.gg_build.proofs.AloneLemmas.{none-needed}
use Rattle.net_tests.proofs.built.build_alone.Goals as goal

pub build-requires-clause-bridges : goal.build-requires-clause-bridges
build-requires-clause-bridges g c κs within = none-needed _ _ c.args.plan.now c.new-bridges.result.items c.requires.alone c.new-bridges.ensures.items
