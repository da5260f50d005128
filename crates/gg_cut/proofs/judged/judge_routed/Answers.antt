use Rattle.std.proofs.Common.{◌<◌, ℕ, List, length, map, sym, ◌∙◌, ap, ap₂, subst}
use Rattle.std.specs.Prelude.{All, Option}
use Rattle.std.proofs.lemmas.List.Elements.{All-map}
use Rattle.std.proofs.lemmas.Result.{err_from_is_err_and}
use Rattle.gg_flat.specs.Circuit.{FlatCircuit}
use Rattle.gg_flat_tree.specs.Tree.{InstanceTree}
use Rattle.gg_cut_plan.specs.declared.fault.CutFault.{CutFault}
use Rattle.gg_cut_plan.specs.declared.listed.Listed.{Listed}
use Rattle.gg_cut_plan.specs.declared.wires.Wire.{Wire}
use Rattle.gg_cut_plan.specs.Fault.{IsTold, Tells, channel_faults, pipe_faults, clock_faults}
use Rattle.gg_bits.specs.Lists.{first_of}
use Rattle.gg_cut.proofs.FaultlessLemmas.{channels-told, pipes-told, clocks-first}
use Rattle.gg_cut.proofs.judged.judge_routed.Goals as goal

pub judge_channels-requires-clause-known : goal.judge_channels-requires-clause-known
judge_channels-requires-clause-known c =
    subst (λ (circuit : FlatCircuit). All (λ s. s < length circuit.signals) c.deref.result.now) (sym c.piece.ensures.circuit)
    (subst (λ (l : List ℕ). All (λ s. s < length c.args.design.now.circuit.signals) l) (sym (c.deref.ensures.value ∙ c.in_ok-signals.ensures))
    (All-map (λ s. s < length c.args.design.now.circuit.signals) (λ (w : Wire). w.signal) c.args.wires.now c.requires.known))

pub judge_pipes-requires-clause-known : goal.judge_pipes-requires-clause-known
judge_pipes-requires-clause-known c =
    subst (λ (circuit : FlatCircuit). All (λ s. s < length circuit.signals) c.deref-2.result.now) (sym c.piece-2.ensures.circuit)
    (subst (λ (l : List ℕ). All (λ s. s < length c.args.design.now.circuit.signals) l) (sym (c.deref-2.ensures.value ∙ c.in_ok-signals.ensures))
    (All-map (λ s. s < length c.args.design.now.circuit.signals) (λ (w : Wire). w.signal) c.args.wires.now c.requires.known))

pub returns-in_err-judge_channels : goal.returns-in_err-judge_channels
returns-in_err-judge_channels c =
    let p = err_from_is_err_and c.from_residual-in_err-judge_channels.result c.from_residual-in_err-judge_channels.ensures.1 in
    let cause = c.in_err-judge_channels.field-0.0 in
    let signals = c.deref.ensures.value ∙ c.in_ok-signals.ensures ∙ ap (map (λ (w : Wire). w.signal)) c.requires.wires in
    rw (p.1, p.2) (channels-told c.args.design.now c.args.request.now c.requires.entries cause
    (subst (λ (fault : Option CutFault). IsTold fault cause)
    (ap (λ (circuit : FlatCircuit). first_of (channel_faults circuit c.args.request.now c.args.listed.now c.deref.result.now)) c.piece.ensures.circuit
    ∙ ap₂ (λ (l : Listed) (s : List ℕ). first_of (channel_faults c.args.design.now.circuit c.args.request.now l s)) c.requires.listed signals)
    c.in_err-judge_channels.ensures))

pub returns-in_err-judge_pipes : goal.returns-in_err-judge_pipes
returns-in_err-judge_pipes c =
    let p = err_from_is_err_and c.from_residual-in_err-judge_pipes.result c.from_residual-in_err-judge_pipes.ensures.1 in
    let cause = c.in_err-judge_pipes.field-0.0 in
    let signals = c.deref.ensures.value ∙ c.in_ok-signals.ensures ∙ ap (map (λ (w : Wire). w.signal)) c.requires.wires in
    let again = c.deref-2.ensures.value ∙ c.in_ok-signals.ensures ∙ ap (map (λ (w : Wire). w.signal)) c.requires.wires in
    let none =
    sym (ap (λ (circuit : FlatCircuit). first_of (channel_faults circuit c.args.request.now c.args.listed.now c.deref.result.now)) c.piece.ensures.circuit
    ∙ ap₂ (λ (l : Listed) (s : List ℕ). first_of (channel_faults c.args.design.now.circuit c.args.request.now l s)) c.requires.listed signals)
    ∙ c.in_ok-judge_channels.ensures
    in
    rw (p.1, p.2) (pipes-told c.args.design.now c.args.request.now c.requires.entries none cause
    (subst (λ (fault : Option CutFault). IsTold fault cause)
    (ap (λ (circuit : FlatCircuit). first_of (pipe_faults circuit c.args.request.now c.deref-2.result.now)) c.piece-2.ensures.circuit
    ∙ ap (λ (s : List ℕ). first_of (pipe_faults c.args.design.now.circuit c.args.request.now s)) again)
    c.in_err-judge_pipes.ensures))

pub returns : goal.returns
returns c =
    let signals = c.deref.ensures.value ∙ c.in_ok-signals.ensures ∙ ap (map (λ (w : Wire). w.signal)) c.requires.wires in
    let again = c.deref-2.ensures.value ∙ c.in_ok-signals.ensures ∙ ap (map (λ (w : Wire). w.signal)) c.requires.wires in
    let none =
    sym (ap (λ (circuit : FlatCircuit). first_of (channel_faults circuit c.args.request.now c.args.listed.now c.deref.result.now)) c.piece.ensures.circuit
    ∙ ap₂ (λ (l : Listed) (s : List ℕ). first_of (channel_faults c.args.design.now.circuit c.args.request.now l s)) c.requires.listed signals)
    ∙ c.in_ok-judge_channels.ensures
    in
    let good =
    sym (ap (λ (circuit : FlatCircuit). first_of (pipe_faults circuit c.args.request.now c.deref-2.result.now)) c.piece-2.ensures.circuit
    ∙ ap (λ (s : List ℕ). first_of (pipe_faults c.args.design.now.circuit c.args.request.now s)) again)
    ∙ c.in_ok-judge_pipes.ensures
    in
    subst (λ (fault : Option CutFault). Tells fault c.judge_clocks.result)
    (ap (λ (tree : InstanceTree). first_of (clock_faults tree c.args.request.now)) c.tree.ensures.tree
    ∙ clocks-first c.args.design.now c.args.request.now c.requires.entries none good)
    c.judge_clocks.ensures
