use Rattle.gg_trace.proofs.LinedLaws.{are_lines, lines_are}
use Rattle.gg_trace.proofs.line_cuts.lines_part_their_text.Goals as goal

pub returns-clause-are : goal.returns-clause-are
returns-clause-are c = lines_are

pub returns-clause-only : goal.returns-clause-only
returns-clause-only c = are_lines
