use Rattle.std.proofs.Common.{ap}
use Rattle.clap.specs.Simple.{App}
use Rattle.gg_words.proofs.line.line_command.Goals as goal

pub returns-clause-shape : goal.returns-clause-shape
returns-clause-shape c = ap (λ (a : App). a.top) c.in_ok-command.ensures.is
