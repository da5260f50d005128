use Rattle.std.proofs.Common.{◌<◌, ◌-◌, List, ℕ, length, refl, sym, ◌∙◌, ap, ap₂, subst}
use Rattle.std.specs.Prelude.{All}
use Rattle.gg_flat.specs.Circuit.{FlatCircuit}
use Rattle.gg_flat_tree.specs.Tree.{InstanceTree}
use Rattle.gg_flat.specs.WellFormed.{IsWellFormed}
use Rattle.gg_cut_plan.proofs.BridgeLemmas.{known-ins, known-outs}
use Rattle.gg_cut_split.proofs.NumberLemmas.{takers-made}
use Rattle.gg_cut_split.proofs.ends.port_takers.Goals as goal

pub takers_of-requires-clause-known : goal.takers_of-requires-clause-known
takers_of-requires-clause-known c =
    let piece = c.piece-piece.result.now in
    subst (λ (l : List ℕ). All (λ s. s < length piece.signals) l) (sym c.ins-ins.ensures) (known-ins piece (subst (λ (k : FlatCircuit). IsWellFormed k) (sym c.piece-piece.ensures.circuit) c.piece-piece.ensures.formed))

pub takers_of-requires-2-clause-known : goal.takers_of-requires-2-clause-known
takers_of-requires-2-clause-known c =
    let piece = c.piece-piece.result.now in
    subst (λ (l : List ℕ). All (λ s. s < length piece.signals) l) (sym c.outs-outs.ensures) (known-outs piece (subst (λ (k : FlatCircuit). IsWellFormed k) (sym c.piece-piece.ensures.circuit) c.piece-piece.ensures.formed))

pub returns : goal.returns
returns c =
    let design = c.args.design.now in
    takers-made design.circuit c.piece-piece.result.now design.tree c.args._listed.now c.args.entries.now c.ins-ins.result.now c.outs-outs.result.now (length c.ins-ins.result.now) c.saturating_sub-outputs.result c.in_ok-drivers.drivers.items c.in_ok-viewers.viewers.items
    c.piece-piece.ensures.circuit c.ins-ins.ensures c.outs-outs.ensures refl
    (c.saturating_sub-outputs.ensures ∙ ap₂ (λ a b. a - b) (ap length c.outs-outs.ensures ∙ ap (λ (k : FlatCircuit). length k.outs) c.piece-piece.ensures.circuit) (ap length c.stops.ensures ∙ ap (λ (t : InstanceTree). length t.stops) c.tree.ensures.tree))
    c.in_ok-drivers.ensures.count c.in_ok-drivers.ensures.takers c.in_ok-viewers.ensures.count c.in_ok-viewers.ensures.takers
