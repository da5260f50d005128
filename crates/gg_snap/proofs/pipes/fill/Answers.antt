use Rattle.std.proofs.Common.{arith}
use Rattle.gg_snap.proofs.PipeLemmas.{filled-next, filled-none, fits}
use Rattle.gg_snap.proofs.pipes.fill.Goals as goal

pub loop-c-init : goal.loop-c-init
loop-c-init c = filled-none c.args.channels.now c.args.tokens.now c.args.pipes.now

pub put_if-requires : goal.put_if-requires
put_if-requires c = fits c.args.channels.now c.args.numbers.now c.args.tokens.now c.args.pipes.now c.loop-c.pipes c.loop-c.c c.index-channels-c.result c.requires.numbers c.requires.apart c.loop-c-test.true c.loop-c.invariant c.index-channels-c.is

pub loop-c-preserved : goal.loop-c-preserved
loop-c-preserved c =
    filled-next c.args.channels.now c.args.numbers.now c.args.tokens.now c.args.pipes.now c.loop-c.pipes c.loop-c.c c.index-channels-c.result c.requires.numbers c.requires.apart c.loop-c-test.true c.loop-c.invariant c.index-channels-c.is c.put_if.new.values c.put_if.ensures

pub returns-clause-each : goal.returns-clause-each
returns-clause-each c = λ k any lt pipe.
    let high = c.loop-c-test.false in
    c.loop-c.invariant.each k any (omega (arith, lt, high)) pipe
