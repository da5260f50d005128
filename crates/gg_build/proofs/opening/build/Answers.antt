use Rattle.std.proofs.Common.{refl}
use Rattle.gg_build.proofs.BeginLemmas.{run-begins, zeros-begin}
use Rattle.gg_build.proofs.opening.build.Goals as goal

pub build_from-requires-clause-run : goal.build_from-requires-clause-run
build_from-requires-clause-run g c κs within = run-begins c.args.plan.now c.args.trace.now.columns c.args.trace.now.rows g.Z.Streams.flow _ refl refl c.new.ensures.items c.requires.run

pub returns : goal.returns
returns g c = λ start run zeros. c.in_ok-net.ensures start run (zeros-begin c.args.plan.now c.args.trace.now.columns c.args.trace.now.rows g.Z.Streams.flow _ refl refl c.new.ensures.items start run zeros)
