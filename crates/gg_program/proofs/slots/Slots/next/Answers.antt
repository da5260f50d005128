use Rattle.std.proofs.Common.{arith}
use Rattle.gg_program.proofs.UnsetLemmas.{unset-none}
use Rattle.gg_program.proofs.slots.Slots.next.Goals as goal

pub returns-clause-steps : goal.returns-clause-steps
returns-clause-steps g c = omega (arith, c.rest.ensures.steps, unset-none c.args.piece.now c.rest.new.self c.rest.ensures.done)
