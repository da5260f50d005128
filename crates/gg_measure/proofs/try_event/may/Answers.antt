use Rattle.gg_net.specs.Step.{Ready, Refused}
use Rattle.gg_measure.proofs.TellLemmas.{told}
use Rattle.gg_net.proofs.TableLemmas.{never}
use Rattle.gg_measure.proofs.try_event.may.Goals as goal

pub returns : goal.returns
returns g c =
    told c.test.result c.is_ok.result (Ready c.args.net.now c.args.event) (Ready c.args.net.now c.args.event → ⊥) (Refused c.args.net.now c.args.event) c.is_ok.ensures.value c.test.ensures
    (λ cause refused. λ ready. never c.args.net.now c.args.event cause ready refused)
