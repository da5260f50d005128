-- proofs/laws/refused_once/Answers.antt
use Rattle.std.proofs.Common.{sym, ◌∙◌}
use Rattle.std.proofs.lemmas.Option.{same_Some}
use Rattle.gg_net.proofs.laws.refused_once.Goals as goal

pub returns : goal.returns
returns c = λ flow net event cause other kept is same. same_Some cause other (sym is ∙ same)
