use Rattle.gg_cut_reference.proofs.TextLemmas.SameCutLemmas.{text-once}
use Rattle.gg_cut_reference.proofs.text.laws.one_text.Goals as goal

pub returns : goal.returns
returns c = text-once
