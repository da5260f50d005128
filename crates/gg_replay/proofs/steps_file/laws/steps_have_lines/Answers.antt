-- An event has a line, and a text can be lengthened by it.
use Rattle.gg_replay.proofs.StepsFileLemmas.LengthenLaws.{lengthened}
use Rattle.gg_replay.proofs.StepsFileLemmas.UsableLaws.{has-line}
use Rattle.gg_replay.proofs.steps_file.laws.steps_have_lines.Goals as goal

pub returns-clause-spelt : goal.returns-clause-spelt
returns-clause-spelt c = has-line

pub returns-clause-lengthened : goal.returns-clause-lengthened
returns-clause-lengthened c = λ text line is. lengthened line is text
