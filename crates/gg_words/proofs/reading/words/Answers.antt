use Rattle.gg_words.specs.Meaning.{texts}
use Rattle.gg_words.proofs.ApartLaws.{read-complete, read-due, read-none}
use Rattle.gg_words.proofs.reading.words.Goals as goal

pub returns-clause-complete : goal.returns-clause-complete
returns-clause-complete c = read-complete (texts c.args.words.now) c.read_words.result c.read_words.ensures

pub returns-clause-due : goal.returns-clause-due
returns-clause-due c = read-due (texts c.args.words.now) c.read_words.result c.read_words.ensures

pub returns-clause-none : goal.returns-clause-none
returns-clause-none c = read-none (texts c.args.words.now) c.read_words.result c.read_words.ensures
