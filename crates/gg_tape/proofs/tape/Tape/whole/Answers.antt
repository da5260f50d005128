use Rattle.std.proofs.Common.{◌≡◌, ◌+◌, ◌∙◌, ℕ, List, length, map, sym, ap, subst, arith}
use Rattle.gg_tape.specs.declared.taped.TapedSignal.{TapedSignal}
use Rattle.gg_tape.specs.inside.Tape.{signals_of, AreNumbers}
use Rattle.gg_tape.proofs.TapeLemmas.{AreNumbers-more}
use Rattle.gg_tape.proofs.tape.Tape.whole.Goals as goal

pub loop-signal-preserved : goal.loop-signal-preserved
loop-signal-preserved c =
    let more : AreNumbers (c.loop-signal.signal + 1) (signals_of c.add.new.self) =
    subst (λ (xs : List ℕ). AreNumbers (c.loop-signal.signal + 1) xs) (sym c.in_ok-add.ensures.signals) (AreNumbers-more c.loop-signal.signal (signals_of c.loop-signal.tape) c.loop-signal.invariant.1) in
    (c.in_ok-add.ensures.taped, more, ap (λ xs. xs.items) c.in_ok-add.ensures.registers ∙ c.loop-signal.invariant.2)

pub returns : goal.returns
returns c =
    let all : c.loop-signal.signal ≡ length c.args.piece.now.signals = omega (arith, c.loop-signal-test.false, c.loop-signal.auto.signal-end, c.signal_count-signal-end.ensures.count) in
    let before : AreNumbers (length c.args.piece.now.signals) (signals_of c.loop-signal.tape) = subst (λ (n : ℕ). AreNumbers n (signals_of c.loop-signal.tape)) all c.loop-signal.invariant.1 in
    let same : signals_of c.loop-signal.tape ≡ signals_of c.add_registers.new.self = sym (ap (λ xs. map (λ (taped : TapedSignal). taped.signal) xs.items) c.add_registers.ensures.signals) in
    record { whole = record { tape_is = c.in_ok-add_registers.ensures.tape; numbers = subst (λ (xs : List ℕ). AreNumbers (length c.args.piece.now.signals) xs) same before } }
