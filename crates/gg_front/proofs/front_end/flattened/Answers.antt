use Rattle.gg_front.specs.Fault.{OfLimits}
use Rattle.gg_front.proofs.front_end.flattened.Goals as goal

pub returns-in-Err-TooLarge-clause-refused : goal.returns-in-Err-TooLarge-clause-refused
returns-in-Err-TooLarge-clause-refused c =
    OfLimits c.requires c.in-Err-TooLarge.excess (rw c.in-Err-TooLarge.field-0-is at c.in-Err-TooLarge.ensures.limits) c.over_limit.ensures
