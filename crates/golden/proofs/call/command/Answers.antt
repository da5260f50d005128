use Rattle.std.proofs.Common.{refl, subst}
use Rattle.gg_io.specs.Ends.{loads_of, puts_of}
use Rattle.gg_io.specs.inside.Endings.{said_by, said_of}
use Rattle.gg_words.specs.Meaning.{texts}
use Rattle.gg_words.specs.declared.command.Cmd.{Cmd}
use Rattle.golden_commands.specs.Bridges.{models_in}
use Rattle.golden_commands.specs.inside.Outcome.{IsByNetwork}
use Rattle.golden.proofs.CallLemmas.{did-asked, other-network, unasked-ends}
use Rattle.golden.proofs.CauseLemmas.{refused-unasked}
use Rattle.golden.proofs.SteppedLemmas.{asked-other}
use Rattle.golden.proofs.call.command.Goals as goal

pub do_handed-requires-clause-range : goal.do_handed-requires-clause-range
do_handed-requires-clause-range g c κs within = c.numbers_are_in_range.ensures (texts c.args.given.now) c.in-Ok.cmd c.in-Ok.ensures.command

pub returns-in-Ok-clause-ended : goal.returns-in-Ok-clause-ended
returns-in-Ok-clause-ended g c = did-asked c.in-Ok.ensures.command c.do_handed.ensures.did

pub returns-in-Ok-clause-network : goal.returns-in-Ok-clause-network
returns-in-Ok-clause-network g c = λ asked asks.
    subst
    (λ (command : Cmd). IsByNetwork (models_in g.B.Bridge.piece c.args.bridges.items) command (loads_of g.S.Shelf c.args.shelf.now c.do_handed.new.shelf) (puts_of g.K.Sink c.args.out.now c.do_handed.new.out) (said_by c.do_handed.result))
    (c.in-Ok.ensures.complete asked asks) c.do_handed.ensures.did.network

pub returns-in-Err-clause-ended : goal.returns-in-Err-clause-ended
returns-in-Err-clause-ended g c =
    unasked-ends c.end_at_words.result refl
    (refused-unasked (texts c.args.given.now) c.in-Err.fault c.end_at_words.result c.in-Err.ensures.none c.in-Err.ensures.fault c.end_at_words.ensures)

pub returns-in-Err-clause-network : goal.returns-in-Err-clause-network
returns-in-Err-clause-network g c = λ asked asks.
    other-network (models_in g.B.Bridge.piece c.args.bridges.items) (loads_of g.S.Shelf c.args.shelf.now c.args.shelf.now) (puts_of g.K.Sink c.args.out.now c.args.out.now) (said_of c.end_at_words.result) asked
    (asked-other c.end_at_words.result asks
    (refused-unasked (texts c.args.given.now) c.in-Err.fault c.end_at_words.result c.in-Err.ensures.none c.in-Err.ensures.fault c.end_at_words.ensures))
