use Rattle.std.proofs.Common.{◌<◌, length, sym, ◌∙◌, subst}
use Rattle.std.specs.Prelude.{All}
use Rattle.gg_cut_plan.proofs.BridgeLemmas.{known-ins}
use Rattle.golden_commands.proofs.OpenLemmas.{all-open, fed-made}
use Rattle.golden_commands.proofs.ports.fed_ports.Goals as goal

pub open_signals-requires : goal.open_signals-requires
open_signals-requires c = subst (All (λ s. s < length c.args.piece.now.signals)) (sym c.ins.ensures) (known-ins c.args.piece.now c.requires)

pub ports-requires : goal.ports-requires
ports-requires c =
    all-open c.args.piece.now c.in_ok-driven.driven c.ins.result.now (subst (All (λ s. s < length c.args.piece.now.signals)) (sym c.ins.ensures) (known-ins c.args.piece.now c.requires))
    c.as_slice-2.result.now (c.as_slice-2.ensures.value ∙ c.in_ok-kept.ensures)

pub returns : goal.returns
returns c =
    fed-made c.args.piece.now c.args.request.now c.as_slice.result.now c.as_slice.ensures c.in_ok-driven.driven c.in_ok-driven.ensures
    c.ins.result.now c.ins.ensures c.as_slice-2.result.now (c.as_slice-2.ensures.value ∙ c.in_ok-kept.ensures) c.in_ok-ports.ports c.in_ok-ports.ensures
