use Rattle.std.proofs.Common.{◌≡◌, ◌++◌, List, ℕ, codes, IfOk, ◌∙◌, ap, subst}
use Rattle.gg_flat.specs.Circuit.{FlatCircuit}
use Rattle.gg_bridge.specs.Ports.{front_of}
use Rattle.gg_bridge.proofs.PortLemmas.{seen-is, driven-is, can-join, is-joined}
use Rattle.gg_bridge.proofs.ports.join.Goals as goal

pub join_model-requires-clause-can : goal.join_model-requires-clause-can
join_model-requires-clause-can c =
    let circuit = c.args.design.now.circuit in
    let front : c.as_str.result.now ≡ front_of c.args.name.now = c.as_str.ensures.value ∙ c.in_ok-push_str.ensures.bytes ∙ ap (λ (l : List ℕ). l ++ codes ".") c.in_ok-front.ensures in
    let seen = seen-is circuit c.piece-piece.result.now c.outs.result.now c.as_slice.result.now c.args.sees.now c.in_ok-seen.seen.items c.deref.result.now c.piece-piece.ensures.circuit c.outs.ensures c.as_slice.ensures c.in_ok-seen.ensures c.deref.ensures.value in
    let driven = driven-is circuit c.piece-piece.result.now c.ins.result.now c.as_slice-2.result.now c.args.drives.now c.in_ok-driven.driven.items c.deref-2.result.now c.piece-piece.ensures.circuit c.ins.ensures c.as_slice-2.ensures c.in_ok-driven.ensures c.deref-2.ensures.value in
    can-join circuit c.args.name.now c.as_str.result.now c.args.model.now c.args.sees.now c.args.drives.now c.deref.result.now c.deref-2.result.now front seen driven c.requires.can.can

pub returns-clause-circuit : goal.returns-clause-circuit
returns-clause-circuit c =
    let circuit = c.args.design.now.circuit in
    let front : c.as_str.result.now ≡ front_of c.args.name.now = c.as_str.ensures.value ∙ c.in_ok-push_str.ensures.bytes ∙ ap (λ (l : List ℕ). l ++ codes ".") c.in_ok-front.ensures in
    let seen = seen-is circuit c.piece-piece.result.now c.outs.result.now c.as_slice.result.now c.args.sees.now c.in_ok-seen.seen.items c.deref.result.now c.piece-piece.ensures.circuit c.outs.ensures c.as_slice.ensures c.in_ok-seen.ensures c.deref.ensures.value in
    let driven = driven-is circuit c.piece-piece.result.now c.ins.result.now c.as_slice-2.result.now c.args.drives.now c.in_ok-driven.driven.items c.deref-2.result.now c.piece-piece.ensures.circuit c.ins.ensures c.as_slice-2.ensures c.in_ok-driven.ensures c.deref-2.ensures.value in
    subst (λ (all : FlatCircuit). IfOk c.join_model.result (λ made. made.circuit ≡ all))
    (is-joined circuit c.args.name.now c.as_str.result.now c.args.model.now c.args.sees.now c.args.drives.now c.deref.result.now c.deref-2.result.now front seen driven)
    c.join_model.ensures.circuit
