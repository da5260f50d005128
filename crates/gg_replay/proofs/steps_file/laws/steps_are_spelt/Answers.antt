use Rattle.gg_replay.proofs.StepsFileLemmas.SpellingLaws.{step-spelt, step-read}
use Rattle.gg_replay.proofs.steps_file.laws.steps_are_spelt.Goals as goal

pub returns-clause-spelt : goal.returns-clause-spelt
returns-clause-spelt c = step-spelt

pub returns-clause-read : goal.returns-clause-read
returns-clause-read c = step-read
