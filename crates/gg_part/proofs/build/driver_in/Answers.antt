use Rattle.std.proofs.Common.{sym, ◌∙◌}
use Rattle.gg_part.proofs.build.driver_in.Goals as goal

pub local_driver-requires-clause-registers : goal.local_driver-requires-clause-registers
local_driver-requires-clause-registers c =
    λ r holds. c.requires.held.every c.args.signal r c.requires.signal (record { inside = c.in-None.ensures.missing; holds = sym c.driver_of.ensures ∙ holds })
