use Rattle.gg_tape.proofs.CodeLemmas.{Grows-none}
use Rattle.gg_tape.proofs.tape.origin_of.Goals as goal

pub returns-in-Input-clause-grown : goal.returns-in-Input-clause-grown
returns-in-Input-clause-grown c = Grows-none c.args.code.now

pub returns-in-Held-clause-grown : goal.returns-in-Held-clause-grown
returns-in-Held-clause-grown c = Grows-none c.args.code.now

pub returns-in-MemoryWord-clause-grown : goal.returns-in-MemoryWord-clause-grown
returns-in-MemoryWord-clause-grown c = Grows-none c.args.code.now

pub returns-in-ReadRegister-clause-grown : goal.returns-in-ReadRegister-clause-grown
returns-in-ReadRegister-clause-grown c = Grows-none c.args.code.now

pub returns-in-Some-clause-grown : goal.returns-in-Some-clause-grown
returns-in-Some-clause-grown c = Grows-none c.args.code.now
