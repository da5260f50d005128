use Rattle.std.proofs.Common.{arith}
use Rattle.gg_fame5.proofs.SharedLemmas.{unset-of-most}
use Rattle.net_tests.proofs.circuits.tokens.both_tokens.Goals as goal

pub returns-clause-steps : goal.returns-clause-steps
returns-clause-steps g c =
    let most = unset-of-most c.args.unit.now 0 in
    omega (arith, most, c.token_once-first.ensures.steps, c.token_once-second.ensures.steps)
