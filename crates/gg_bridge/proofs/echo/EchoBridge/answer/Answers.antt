use Rattle.gg_bridge.proofs.EchoLemmas.{echo-answer}
use Rattle.gg_bridge.proofs.echo.EchoBridge.answer.Goals as goal

pub returns-clause-next : goal.returns-clause-next
returns-clause-next c = echo-answer c.args.self.now.ty c.args.self.now.last c.args.seen.now
