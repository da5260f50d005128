use Rattle.std.proofs.Common.{◌++◌, ◌∷◌, [], ◌+◌, sym, ◌∙◌, ap}
use Rattle.gg_bridge.proofs.JoinLemmas.{range-more}
use Rattle.gg_bridge.proofs.numbers.numbers_from.Goals as goal

pub loop-step-preserved : goal.loop-step-preserved
loop-step-preserved c = c.in_ok-push.ensures.items ∙ ap (λ l. l ++ (c.args.first + c.loop-step.step) ∷ []) c.loop-step.invariant ∙ sym (range-more c.args.first c.loop-step.step)
