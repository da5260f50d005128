use Rattle.gg_trace.proofs.PartedLaws.{are_fields, fields_are}
use Rattle.gg_trace.proofs.field_cuts.fields_part_their_line.Goals as goal

pub returns-clause-are : goal.returns-clause-are
returns-clause-are c = fields_are

pub returns-clause-only : goal.returns-clause-only
returns-clause-only c = are_fields
