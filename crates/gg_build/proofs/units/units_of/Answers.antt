use Rattle.std.proofs.Common.{◌<◌, length, sym, ap, subst, ◌∙◌}
use Rattle.std.specs.Prelude.{All}
use Rattle.std.proofs.lemmas.List.{length-map}
use Rattle.gg_flat.specs.Circuit.{FlatCircuit}
use Rattle.gg_flat.specs.Line.{value_at}
use Rattle.gg_flat.specs.State.{IsState}
use Rattle.gg_fame5.specs.inside.Shared.{started_machines}
use Rattle.gg_build.specs.inside.Begin.{starts_of}
use Rattle.gg_build.specs.inside.Hosts.{body_at}
use Rattle.gg_build.proofs.UnitLemmas.{at-cycle, outs-within, run-units, states-like}
use Rattle.gg_build.proofs.units.units_of.Goals as goal

pub from_state-requires-clause-ratios : goal.from_state-requires-clause-ratios
from_state-requires-clause-ratios c =
    let machines = c.args.machines.now in
    ap length (c.deref-2.ensures.value ∙ c.in_ok-own.ensures)
    ∙ length-map c.args.group.now (λ m. (starts_of c.args.ratios.now c.args.begin.now (body_at machines m)).ratios)
    ∙ sym c.in_ok-outs.ensures.total
    ∙ sym (ap length c.deref.ensures.value)

pub from_state-requires-clause-states : goal.from_state-requires-clause-states
from_state-requires-clause-states c =
    let machines = c.args.machines.now in
    ap length c.in_ok-states.ensures
    ∙ length-map c.args.group.now (λ m. (starts_of c.args.ratios.now c.args.begin.now (body_at machines m)).state)
    ∙ sym c.in_ok-outs.ensures.total
    ∙ sym (ap length c.deref.ensures.value)

pub from_state-requires-clause-typed : goal.from_state-requires-clause-typed
from_state-requires-clause-typed c =
    subst (λ (circuit : FlatCircuit). All (IsState circuit) c.in_ok-states.states.items) (sym (c.in_ok-program.ensures {u = tt}).circuit)
    (states-like (starts_of c.args.ratios.now c.args.begin.now) c.args.part.now.piece c.args.machines.now c.args.group.now c.in_ok-states.states.items c.requires.units c.requires.begin c.in_ok-states.ensures)

pub from_state-requires-clause-known : goal.from_state-requires-clause-known
from_state-requires-clause-known c =
    let piece = c.args.part.now.piece in
    subst (λ (circuit : FlatCircuit). All (All (λ out. out < length circuit.outs)) c.deref.result.now) (sym (c.in_ok-program.ensures {u = tt}).circuit)
    (subst (All (All (λ out. out < length piece.outs))) (sym c.deref.ensures.value) (outs-within piece.outs c.args.machines.now c.args.group.now c.in_ok-outs.outs.items c.in_ok-outs.ensures))

pub returns : goal.returns
returns c =
    let program = c.in_ok-program.program in
    let outs = c.in_ok-outs.outs.items in
    let own = c.in_ok-own.own.items in
    let states = c.in_ok-states.states.items in
    let begin = c.args.begin.now in
    run-units (starts_of c.args.ratios.now begin) begin.cycle c.args.part.now.piece program c.args.machines.now c.args.group.now outs own states c.in_ok-outs.ensures c.in_ok-own.ensures c.in_ok-states.ensures
    (λ t lt. at-cycle c.args.ratios.now begin (body_at c.args.machines.now (value_at c.args.group.now t))) _ c.requires.part.formed (c.in_ok-program.ensures {u = tt}).circuit (c.in_ok-program.ensures {u = tt}).needs c.requires.units
    (c.in_ok-shared.ensures ∙ ap (λ os. started_machines program os c.deref-2.result.now states begin.cycle) c.deref.ensures.value ∙ ap (λ rs. started_machines program outs rs states begin.cycle) c.deref-2.ensures.value)
