use Rattle.gg_io.proofs.WritingLemmas.{put-reports}
use Rattle.gg_io.proofs.writing.report.Goals as goal

pub returns-clause-line : goal.returns-clause-line
returns-clause-line g c = rw (← c.line.ensures) (put-reports g.E.Sink _ _ c.put.result _ c.put.ensures.whole c.put.ensures.caused c.put.ensures.front)
