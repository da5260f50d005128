use Rattle.gg_replay.proofs.FrontLemmas.{none-added}
use Rattle.gg_replay.proofs.steps.note_event.Goals as goal

pub returns-in_default : goal.returns-in_default
returns-in_default g c = none-added g.Z.Streams.flow c.args.net.now c.args.log.now c.args.event c.requires c.in_default.not-Fire
