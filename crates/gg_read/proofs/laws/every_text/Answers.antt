use Rattle.gg_read.proofs.EveryText.{every_text-law}
use Rattle.gg_read.proofs.laws.every_text.Goals as goal

pub returns : goal.returns
returns c = every_text-law
