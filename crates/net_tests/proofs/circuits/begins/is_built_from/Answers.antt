use Rattle.gg_build.proofs.AloneLemmas.{none-needed}
use Rattle.net_tests.proofs.circuits.begins.is_built_from.Goals as goal

pub build_from-requires-clause-bridges : goal.build_from-requires-clause-bridges
build_from-requires-clause-bridges g c κs within = none-needed _ _ c.args.plan.now c.new-bridges.result.items c.requires.alone c.new-bridges.ensures.items
