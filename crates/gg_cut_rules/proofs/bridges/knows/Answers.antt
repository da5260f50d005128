use Rattle.std.proofs.Common.{sym}
use Rattle.gg_cut_plan.specs.Models.{model_names}
use Rattle.gg_cut_plan.proofs.PathLemmas.{among-found, among-missing}
use Rattle.gg_cut_rules.proofs.bridges.knows.Goals as goal

pub returns-in-Some : goal.returns-in-Some
returns-in-Some c = sym (among-found (model_names c.args.models.now) c.args.name.now c.in-Some.field-0 c.in-Some.ensures.found)

pub returns-in-None : goal.returns-in-None
returns-in-None c = sym (among-missing (model_names c.args.models.now) c.args.name.now c.in-None.ensures.missing)
