-- proofs/laws/counted_once/Answers.antt
use Rattle.gg_net.proofs.CountLemmas.{counted-once}
use Rattle.gg_net.proofs.laws.counted_once.Goals as goal

pub returns : goal.returns
returns c = λ flow a b is was frame counts. counted-once flow a b is was frame counts
