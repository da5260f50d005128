use Rattle.std.proofs.Common.{sym, ◌∙◌}
use Rattle.gg_cut_plan.proofs.BridgeLemmas.{unequal-fit, length-shapes}
use Rattle.gg_cut_plan.specs.Bridges.{shapes_at}
use Rattle.gg_cut_rules.proofs.bridges.ports_fit.Goals as goal

pub returns-then-ports-signals : goal.returns-then-ports-signals
returns-then-ports-signals c =
    sym (unequal-fit c.args.piece.now c.args.ports.now (shapes_at c.args.model.now c.args.signals.now) (λ same. c.if-ports-signals.true (same ∙ length-shapes c.args.model.now c.args.signals.now)))
