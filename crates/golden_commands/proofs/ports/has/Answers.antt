use Rattle.std.proofs.Common.{sym}
use Rattle.gg_cut_plan.proofs.PathLemmas.{among-found, among-missing}
use Rattle.golden_commands.proofs.ports.has.Goals as goal

pub returns-in-Some : goal.returns-in-Some
returns-in-Some c = sym (among-found c.args.set.now c.args.name.now c.in-Some.field-0 c.in-Some.ensures.found)

pub returns-in-None : goal.returns-in-None
returns-in-None c = sym (among-missing c.args.set.now c.args.name.now c.in-None.ensures.missing)
