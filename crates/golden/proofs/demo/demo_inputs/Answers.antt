use Rattle.std.proofs.Common.{◌∙◌, ℕ, List, subst, arith}
use Rattle.golden_commands.specs.RunText.{FeedsOnly}
use Rattle.golden.proofs.demo.demo_inputs.Goals as goal

pub returns-clause-feeds : goal.returns-clause-feeds
returns-clause-feeds c =
    let trace = c.in_ok-trace.trace in
    subst (λ (b : List ℕ). FeedsOnly c.args.design.now.circuit c.args.request.now b trace.rows trace.columns) (c.as_bytes.ensures.value ∙ c.in_ok-text.ensures) c.in_ok-trace.ensures.accepted

pub returns-clause-most : goal.returns-clause-most
returns-clause-most c = omega (arith, c.rows.ensures.limit, c.rows.ensures.count)
