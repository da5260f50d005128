use Rattle.gg_rows.proofs.OpeningLemmas.{opening-kept}
use Rattle.gg_rows.proofs.laws.openings_are_kept.Goals as goal

pub returns : goal.returns
returns c = λ plan start columns n flow run net opens. opening-kept plan start columns n flow run net opens
