use Rattle.gg_tape.proofs.CodeLemmas.{Grows-none}
use Rattle.gg_tape.proofs.code.Code.tell_next.Goals as goal

pub returns-in-None-clause-grown : goal.returns-in-None-clause-grown
returns-in-None-clause-grown c = Grows-none c.args.self.now
