-- The signals of a loop are signals of the circuit.
use Rattle.gg_front.proofs.LoopLemmas.{loop-known}
use Rattle.gg_front.proofs.front_end.loop_of.Goals as goal

pub paths-requires-clause-known : goal.paths-requires-clause-known
paths-requires-clause-known c = loop-known c.args.piece.now c.args.signals.now c.requires.told.loop
