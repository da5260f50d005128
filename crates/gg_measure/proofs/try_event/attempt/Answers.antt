use Rattle.std.proofs.Common.{◌≡◌}
use Rattle.gg_net.specs.Step.{Ready, Refused, Step}
use Rattle.gg_measure.proofs.TellLemmas.{told}
use Rattle.gg_net.proofs.TableLemmas.{never}
use Rattle.gg_measure.proofs.try_event.attempt.Goals as goal

pub returns : goal.returns
returns g c =
    told c.step.result c.is_ok.result (Step c.args.net.now c.args.event c.step.new.self) ((c.step.new.self ≡ c.args.net.now) × (Ready c.args.net.now c.args.event → ⊥)) (λ cause. Refused c.args.net.now c.args.event cause × (c.step.new.self ≡ c.args.net.now)) c.is_ok.ensures.value c.step.ensures
    (λ cause both. (both.1, λ ready. never c.args.net.now c.args.event cause ready both.0))
