use Rattle.std.proofs.Common.{◌<◌, length, sym, subst}
use Rattle.std.specs.Prelude.{All}
use Rattle.gg_cut_plan.proofs.BridgeLemmas.{known-ins, known-outs, model-formed}
use Rattle.gg_cut_rules.proofs.bridges.fits_at.Goals as goal

pub ports_fit-requires : goal.ports_fit-requires
ports_fit-requires c =
    subst (All (λ s. s < length c.in-Some.model.now.signals)) (sym c.ins.ensures) (known-ins c.in-Some.model.now (model-formed c.args.models.now c.args.place c.in-Some.model.now c.requires (sym c.in-Some.ensures)))

pub ports_fit-requires-then-ports_fit : goal.ports_fit-requires-then-ports_fit
ports_fit-requires-then-ports_fit c =
    subst (All (λ s. s < length c.in-Some.model.now.signals)) (sym c.outs.ensures) (known-outs c.in-Some.model.now (model-formed c.args.models.now c.args.place c.in-Some.model.now c.requires (sym c.in-Some.ensures)))
