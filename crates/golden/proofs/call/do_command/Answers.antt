use Rattle.golden.proofs.DemoLemmas.{demo-ends}
use Rattle.golden.proofs.call.do_command.Goals as goal

pub returns-in-Demo-clause-did : goal.returns-in-Demo-clause-did
returns-in-Demo-clause-did g c = rw c.in-Demo.is (record { ended = demo-ends c.demo.ensures.ended; network = tt })
