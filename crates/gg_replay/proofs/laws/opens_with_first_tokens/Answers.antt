use Rattle.gg_replay.proofs.OpeningLemmas.{first-fronts}
use Rattle.gg_replay.proofs.laws.opens_with_first_tokens.Goals as goal

pub returns : goal.returns
returns c = λ flow machines wires end starts kept opening. first-fronts flow machines wires end starts kept opening
