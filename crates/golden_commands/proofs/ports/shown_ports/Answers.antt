use Rattle.std.proofs.Common.{◌<◌, length, sym, ap, ◌∙◌, subst}
use Rattle.std.specs.Prelude.{All}
use Rattle.gg_flat.specs.Circuit.{FlatCircuit}
use Rattle.gg_flat_tree.specs.Scoped.{stop_signals}
use Rattle.golden_commands.specs.RunText.{outputs_of}
use Rattle.golden_commands.proofs.OpenLemmas.{all-open}
use Rattle.golden_commands.proofs.OutputLemmas.{outputs-known, shown-made}
use Rattle.golden_commands.proofs.ports.shown_ports.Goals as goal

pub open_signals-requires : goal.open_signals-requires
open_signals-requires c =
    let circuit = c.args.design.now.circuit in
    let tree = c.args.design.now.tree in
    subst (λ (f : FlatCircuit). All (λ s. s < length f.signals) c.as_slice-2.result.now) (sym c.piece-piece.ensures.circuit)
    (subst (All (λ s. s < length circuit.signals)) (sym (c.as_slice-2.ensures.value ∙ c.in_ok-outputs.ensures ∙ ap outputs_of c.tree.ensures.tree))
    (outputs-known circuit tree (stop_signals tree) c.requires.scoped.outs c.piece-piece.ensures.formed))

pub ports-requires : goal.ports-requires
ports-requires c =
    let circuit = c.args.design.now.circuit in
    let tree = c.args.design.now.tree in
    let known = subst (λ (f : FlatCircuit). All (λ s. s < length f.signals) c.as_slice-2.result.now) (sym c.piece-piece.ensures.circuit)
    (subst (All (λ s. s < length circuit.signals)) (sym (c.as_slice-2.ensures.value ∙ c.in_ok-outputs.ensures ∙ ap outputs_of c.tree.ensures.tree))
    (outputs-known circuit tree (stop_signals tree) c.requires.scoped.outs c.piece-piece.ensures.formed)) in
    all-open c.piece-piece.result.now c.in_ok-seen.seen c.as_slice-2.result.now known c.as_slice-3.result.now (c.as_slice-3.ensures.value ∙ c.in_ok-kept.ensures)

pub returns : goal.returns
returns c =
    shown-made c.args.design.now c.args.request.now c.piece-piece.result.now c.piece-piece.ensures.circuit c.as_slice.result.now c.as_slice.ensures c.in_ok-seen.seen c.in_ok-seen.ensures
    c.as_slice-2.result.now (c.as_slice-2.ensures.value ∙ c.in_ok-outputs.ensures ∙ ap outputs_of c.tree.ensures.tree) c.as_slice-3.result.now (c.as_slice-3.ensures.value ∙ c.in_ok-kept.ensures) c.in_ok-ports.ports c.in_ok-ports.ensures
