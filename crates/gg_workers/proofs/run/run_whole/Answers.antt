use Rattle.std.proofs.Common.{arith}
use Rattle.gg_workers.proofs.WholeLemmas.{whole-later}
use Rattle.gg_workers.proofs.run.run_whole.Goals as goal

pub run_noted-requires-clause-none_above : goal.run_noted-requires-clause-none_above
run_noted-requires-clause-none_above g c κs within = λ m lt. omega (arith, c.requires.below m lt)

pub returns : goal.returns
returns g c = whole-later g.Z.Streams.flow c.args.upto c.args.net c.run_noted.new.net c.kept.ensures c.kept-2.ensures c.run_noted.ensures.frame c.run_noted.ensures.there c.run_noted.ensures.bounds c.requires.below
