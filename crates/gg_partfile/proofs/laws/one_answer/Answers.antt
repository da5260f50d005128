use Rattle.gg_partfile.proofs.FaultLemmas.{refused-apart, refused-once}
use Rattle.gg_partfile.proofs.OnceLemmas.{request-once}
use Rattle.gg_partfile.proofs.laws.one_answer.Goals as goal

pub returns : goal.returns
returns c = record { request = request-once; apart = refused-apart; key = refused-once }
