use Rattle.std.proofs.Common.{◌≡◌, drop}
use Rattle.gg_read.specs.Text.{first_outside}
use Rattle.gg_read.proofs.fault.first_outside.Given as goal

abbrev pub invariant-loop-token : goal.invariant-loop-token
invariant-loop-token l = first_outside l.tokens ≡ first_outside (drop l.token-index l.tokens)
