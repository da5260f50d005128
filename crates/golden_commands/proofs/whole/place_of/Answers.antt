use Rattle.gg_cut_plan.specs.Models.{model_names}
use Rattle.gg_cut_plan.proofs.PathLemmas.{look-up}
use Rattle.golden_commands.proofs.whole.place_of.Goals as goal

pub returns : goal.returns
returns c = look-up (model_names c.args.models.now) c.args.name.now c.find.result c.len.ensures.distinct c.find.ensures.found c.find.ensures.missing
