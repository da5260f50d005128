use Rattle.gg_rows.proofs.WindowLemmas.{stays}
use Rattle.gg_rows.proofs.window.note_window.Goals as goal

pub returns-then-workers-eq0 : goal.returns-then-workers-eq0
returns-then-workers-eq0 g c = stays c.args.upto c.args.net.now

pub returns : goal.returns
returns g c = record { frame = c.note_cycle.ensures.frame; bounds = c.note_cycle.ensures.bounds }
