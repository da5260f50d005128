use Rattle.std.proofs.Common.{ℕ, ◌<◌, ap, ◌∙◌, subst, arith}
use Rattle.gg_io.proofs.EndingLemmas.{IfRefused-map}
use Rattle.golden_commands.specs.Lines.{few_rows}
use Rattle.golden.proofs.resume.within.Goals as goal

pub returns-then-rows-cycle-clause-refused : goal.returns-then-rows-cycle-clause-refused
returns-then-rows-cycle-clause-refused c =
    let at = c.cycle-cycle.ensures.is in
    IfRefused-map (λ said is. (subst (λ (k : ℕ). c.args.rows < k) at c.if-rows-cycle.true, is ∙ ap (λ (k : ℕ). few_rows k c.args.rows) at)) c.end_few.result c.end_few.ensures

pub returns-clause-within : goal.returns-clause-within
returns-clause-within c = omega (arith, c.if-rows-cycle.false, c.cycle-cycle.ensures.is)
