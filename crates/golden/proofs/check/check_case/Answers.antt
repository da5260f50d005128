use Rattle.golden.proofs.CutLemmas.{only-cut-text}
use Rattle.golden_commands.proofs.PartitionLemmas.{designs-agree}
use Rattle.golden.proofs.check.check_case.Goals as goal

pub returns-clause-prints : goal.returns-clause-prints
returns-clause-prints g c =
    let d = c.one_meaning.ensures in
    let case = c.args.case.now in
    λ known circuit partition capacity is. (
      _,
      only-cut-text (designs-agree d.flat d.tree) c.one_text.ensures is.means is.cuts.asks (c.plan_is_told.ensures case.design case.cut.request known.models capacity case.cut.plan is.planned),
      c.print_plan.ensures.prints,
    )
