use Rattle.gg_io.proofs.WritingLemmas.{failed-front}
use Rattle.gg_io.proofs.writing.put.Goals as goal

pub returns-in-Err-Failed-clause-prints : goal.returns-in-Err-Failed-clause-prints
returns-in-Err-Failed-clause-prints g c = (rw c.in-Err-Failed.field-0-is at c.in-Err-Failed.ensures.caused, failed-front _ _ _ (rw c.in-Err-Failed.field-0-is at c.in-Err-Failed.ensures.front))
