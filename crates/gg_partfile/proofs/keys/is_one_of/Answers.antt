use Rattle.std.proofs.Common.{◌∙◌}
use Rattle.gg_partfile.proofs.ListSteps.{one-of-texts}
use Rattle.gg_partfile.proofs.keys.is_one_of.Goals as goal

pub returns : goal.returns
returns c = c.contains.ensures.value ∙ one-of-texts c.args.keys.now c.args.key.now
