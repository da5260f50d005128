use Rattle.std.proofs.Common.{◌<◌, length, sym, ◌∙◌, subst, arith}
use Rattle.std.specs.Prelude.{All}
use Rattle.std.proofs.lemmas.List.{length-map}
use Rattle.gg_flat.specs.Circuit.{FlatCircuit}
use Rattle.gg_flat.specs.State.{IsState}
use Rattle.gg_cut_plan.specs.declared.plan.Channel.{Channel}
use Rattle.gg_net.specs.Network.{kind_of}
use Rattle.gg_snap.specs.inside.Gathered.{AreIn, IsAll}
use Rattle.gg_snap.specs.Whole.{last_state}
use Rattle.gg_snap.proofs.EndedLemmas.{ended-all, ended-apart, ended-in, ended-known, ended-machines, ended-typed, ended-wires, ended-within}
use Rattle.gg_snap.proofs.snaps.snapshot.Goals as goal

pub gather-requires-clause-machines : goal.gather-requires-clause-machines
gather-requires-clause-machines g c κs within = ended-machines c.args.plan.now c.args.design.now c.requires.ended.0 c.requires.ended.1 c.args.cycle g.Z.Streams.flow c.args.net.now c.requires.ended.2 c.kept.ensures

pub gather-requires-clause-channels : goal.gather-requires-clause-channels
gather-requires-clause-channels g c κs within = ended-wires c.args.plan.now c.args.design.now c.requires.ended.0 c.requires.ended.1 c.args.cycle g.Z.Streams.flow c.args.net.now c.requires.ended.2 c.kept.ensures

pub gather-requires-clause-few : goal.gather-requires-clause-few
gather-requires-clause-few g c κs within =
    let machines = ended-machines c.args.plan.now c.args.design.now c.requires.ended.0 c.requires.ended.1 c.args.cycle g.Z.Streams.flow c.args.net.now c.requires.ended.2 c.kept.ensures in
    let wires = ended-wires c.args.plan.now c.args.design.now c.requires.ended.0 c.requires.ended.1 c.args.cycle g.Z.Streams.flow c.args.net.now c.requires.ended.2 c.kept.ensures in
    (omega (arith, c.within_limits.ensures.machines, length-map c.args.net.now.machines kind_of, machines), omega (arith, c.within_limits.ensures.channels, wires))

pub gather-requires-clause-known : goal.gather-requires-clause-known
gather-requires-clause-known g c κs within =
    subst (λ (circuit : FlatCircuit). All (λ (channel : Channel). channel.signal < length circuit.signals) c.args.plan.now.channels) (sym c.piece.ensures.circuit) (ended-known c.args.plan.now c.args.design.now c.requires.ended.0 c.requires.ended.1 c.args.cycle g.Z.Streams.flow c.args.net.now c.requires.ended.2)

pub gather-requires-clause-apart : goal.gather-requires-clause-apart
gather-requires-clause-apart g c κs within = ended-apart c.args.plan.now c.args.design.now c.requires.ended.0 c.requires.ended.1 c.args.cycle g.Z.Streams.flow c.args.net.now c.requires.ended.2

pub gather-requires-clause-holds : goal.gather-requires-clause-holds
gather-requires-clause-holds g c κs within = (
  last_state c.requires.ended.2.run,
  subst (λ (circuit : FlatCircuit). AreIn circuit c.args.plan.now c.args.net.now (last_state c.requires.ended.2.run)) (sym c.piece.ensures.circuit) (ended-in c.args.plan.now c.args.design.now c.requires.ended.0 c.requires.ended.1 c.args.cycle g.Z.Streams.flow c.args.net.now c.requires.ended.2 c.kept.ensures c.requires.fresh),
)

pub new-requires : goal.new-requires
new-requires g c =
    let plan = c.args.plan.now in
    let design = c.args.design.now in
    let net = c.args.net.now in
    let flow = g.Z.Streams.flow in
    let some = c.requires.ended in
    let ended = some.2 in
    let whole = last_state ended.run in
    let same = c.in_ok-state.ensures whole
    (subst (λ (circuit : FlatCircuit). AreIn circuit plan net whole) (sym c.piece.ensures.circuit) (ended-in plan design some.0 some.1 c.args.cycle flow net ended c.kept.ensures c.requires.fresh))
    (subst (λ (circuit : FlatCircuit). IsAll circuit plan net whole) (sym c.piece.ensures.circuit) (ended-all plan design some.0 some.1 c.args.cycle flow net ended c.kept.ensures c.requires.fresh c.requires.held)) in
    record {
      within = ended-within plan design some.0 some.1 c.args.cycle flow net ended;
      typed = subst (λ (circuit : FlatCircuit). IsState circuit c.in_ok-state.state) (sym some.3) (subst (IsState _) (sym same) (ended-typed plan design some.0 some.1 c.args.cycle flow net ended c.kept.ensures c.requires.fresh));
    }

pub returns-clause-state : goal.returns-clause-state
returns-clause-state g c = λ start columns ended.
    let plan = c.args.plan.now in
    let design = c.args.design.now in
    let net = c.args.net.now in
    let flow = g.Z.Streams.flow in
    let whole = last_state ended.run in
    c.new.ensures.state
    ∙ c.in_ok-state.ensures whole
    (subst (λ (circuit : FlatCircuit). AreIn circuit plan net whole) (sym c.piece.ensures.circuit) (ended-in plan design start columns c.args.cycle flow net ended c.kept.ensures c.requires.fresh))
    (subst (λ (circuit : FlatCircuit). IsAll circuit plan net whole) (sym c.piece.ensures.circuit) (ended-all plan design start columns c.args.cycle flow net ended c.kept.ensures c.requires.fresh c.requires.held))
