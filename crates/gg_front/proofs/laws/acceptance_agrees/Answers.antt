-- A text spells at most one circuit.
use Rattle.std.proofs.Common.{subst}
use Rattle.gg_front.specs.Accepted.{IsAccepted}
use Rattle.gg_front.proofs.laws.acceptance_agrees.Goals as goal

pub returns : goal.returns
returns c = λ text one other a b accepted. subst IsAccepted (c.one_circuit.ensures text one other a b) accepted
