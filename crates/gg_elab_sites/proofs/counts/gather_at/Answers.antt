use Rattle.std.proofs.Common.{◌∙◌, arith, length}
use Rattle.std.proofs.lemmas.List.{get_or_default}
use Rattle.gg_elab_sites.proofs.counts.gather_at.Goals as goal

pub returns : goal.returns
returns c =
    c.index.ensures
    ∙ get_or_default c.gather-values.result.items c.args.place c.index.result.now 0 (omega (arith, c.gather-values.ensures.count, c.requires.place))
    ∙ c.gather-values.ensures.values c.args.place (length c.args.circuit.now.modules) c.requires.place (omega arith)
