use Rattle.std.proofs.Common.{◌≡◌, ◌<◌, List, length, Some, sym, ap, ◌∙◌, subst, arith}
use Rattle.std.specs.Prelude.{All}
use Rattle.gg_flat.specs.Circuit.{FlatCircuit}
use Rattle.gg_flat.specs.State.{State}
use Rattle.gg_cut_plan.specs.declared.plan.Channel.{Channel}
use Rattle.gg_build.specs.declared.begin.Begin.{Begin}
use Rattle.gg_snap.proofs.BeginLemmas.{begins, none-owed, registers-there, signals-there, to-begin, tokens-by}
use Rattle.gg_snap.proofs.snaps.restore.Goals as goal

pub tokens_of-requires : goal.tokens_of-requires
tokens_of-requires g c =
    let plan = c.args.plan.now in
    let design = c.args.design.now in
    let snap = c.args.snap in
    let trace = c.args.trace.now in
    let flow = g.Z.Streams.flow in
    let held : length c.registers-held.result.now ≡ length design.circuit.registers = ap length c.registers-held.ensures ∙ ap (λ (circuit : FlatCircuit). length circuit.registers) c.piece-piece.ensures.circuit in
    let values : c.registers.result.now ≡ snap.state.registers = c.registers.ensures ∙ ap (λ (s : State). s.registers) c.into_state-state.ensures.is in
    let some = c.requires in
    let count : c.signal_count-signals.result ≡ length design.circuit.signals = c.signal_count-signals.ensures.count ∙ ap (λ (circuit : FlatCircuit). length circuit.signals) c.piece-piece.ensures.circuit in
    record {
      known = subst (λ (l : List Channel). All (λ (channel : Channel). channel.signal < c.signal_count-signals.result) l) (sym c.as_slice-channels.ensures)
          (subst (λ n. All (λ (channel : Channel). channel.signal < n) plan.channels) (sym count) (signals-there plan design snap.cycle snap.state some.0 trace.columns trace.rows flow some.1));
      few = omega (arith, c.signal_count-signals.ensures.count, c.signal_count-signals.ensures.few);
      held = omega (arith, held, ap length values, registers-there plan design snap.cycle snap.state some.0 trace.columns trace.rows flow some.1);
    }

pub build_from-requires-clause-bridges : goal.build_from-requires-clause-bridges
build_from-requires-clause-bridges g c κs within =
    let some = c.requires in
    none-owed c.args.plan.now c.args.design.now c.args.snap.cycle c.args.snap.state some.0 c.args.trace.now.columns c.args.trace.now.rows g.Z.Streams.flow some.1 g.B.Bridge.piece g.B.Bridge.state c.new.result.items c.new.ensures.items

pub build_from-requires-clause-run : goal.build_from-requires-clause-run
build_from-requires-clause-run g c κs within =
    let plan = c.args.plan.now in
    let design = c.args.design.now in
    let snap = c.args.snap in
    let trace = c.args.trace.now in
    let flow = g.Z.Streams.flow in
    let held : length c.registers-held.result.now ≡ length design.circuit.registers = ap length c.registers-held.ensures ∙ ap (λ (circuit : FlatCircuit). length circuit.registers) c.piece-piece.ensures.circuit in
    let values : c.registers.result.now ≡ snap.state.registers = c.registers.ensures ∙ ap (λ (s : State). s.registers) c.into_state-state.ensures.is in
    let tokens = tokens-by c.as_slice-channels.result.now plan.channels c.registers.result.now snap.state.registers (length c.registers-held.result.now) (length design.circuit.registers) c.in_ok-tokens.tokens.items c.as_slice-channels.ensures values held c.in_ok-tokens.ensures in
    let begin : Begin = record { cycle = c.cycle-cycle.result; state = Some c.into_state-state.result; tokens = c.in_ok-tokens.tokens } in
    let some = c.requires in
    to-begin plan design snap.cycle snap.state some.0 trace.columns trace.rows flow some.1 begin c.cycle-cycle.ensures.is (ap Some c.into_state-state.ensures.is) tokens

pub returns : goal.returns
returns g c = λ start can.
    let plan = c.args.plan.now in
    let design = c.args.design.now in
    let snap = c.args.snap in
    let trace = c.args.trace.now in
    let flow = g.Z.Streams.flow in
    let held : length c.registers-held.result.now ≡ length design.circuit.registers = ap length c.registers-held.ensures ∙ ap (λ (circuit : FlatCircuit). length circuit.registers) c.piece-piece.ensures.circuit in
    let values : c.registers.result.now ≡ snap.state.registers = c.registers.ensures ∙ ap (λ (s : State). s.registers) c.into_state-state.ensures.is in
    let tokens = tokens-by c.as_slice-channels.result.now plan.channels c.registers.result.now snap.state.registers (length c.registers-held.result.now) (length design.circuit.registers) c.in_ok-tokens.tokens.items c.as_slice-channels.ensures values held c.in_ok-tokens.ensures in
    let begin : Begin = record { cycle = c.cycle-cycle.result; state = Some c.into_state-state.result; tokens = c.in_ok-tokens.tokens } in
    c.in_ok-net.ensures start can.run (begins plan design snap.cycle snap.state start trace.columns trace.rows flow can begin c.cycle-cycle.ensures.is (ap Some c.into_state-state.ensures.is) tokens)
