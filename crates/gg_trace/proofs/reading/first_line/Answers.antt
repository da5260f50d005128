use Rattle.std.proofs.Common.{ap, [], map, get_or}
use Rattle.gg_trace.specs.Fields.{fields}
use Rattle.gg_trace.proofs.reading.first_line.Goals as goal

pub returns-in-None-clause-header : goal.returns-in-None-clause-header
unfolding fields
returns-in-None-clause-header c = ap (λ lines. get_or (map fields lines) 0 []) c.in-None.ensures.0
