-- The opening is a state of its circuit, and so is the state after each cycle.
use Rattle.std.proofs.Common.{◌≡◌, ℕ, ◌<◌, Bool, true, false, List, length, get_or, sym, ◌∙◌, subst, arith}
use Rattle.std.specs.Prelude.{Option, Some, None, ◌==◌, if◌then◌else◌}
use Rattle.std.proofs.lemmas.List.{length-map, get_or-map}
use Rattle.gg_bits.specs.Shape.{shape, uint, Fits}
use Rattle.gg_flat.specs.declared.line.Node.{Node}
use Rattle.gg_flat.specs.declared.piece.Register.{Register}
use Rattle.gg_flat.specs.declared.piece.Reset.{Reset}
use Rattle.gg_flat.specs.Clock.{ticks}
use Rattle.gg_flat.specs.Line.{shape_at, value_at, line_value, connected_value, AreTyped}
use Rattle.gg_flat.specs.Circuit.{FlatCircuit, signal_shapes, register_shapes}
use Rattle.gg_flat.specs.WellFormed.{IsWellFormed}
use Rattle.gg_flat.specs.State.{State, IsState, opening, next_state, taken_value, next_register, next_registers, connected_or, reset_or}
use Rattle.gg_flat.proofs.TypedLemmas.{AreTyped-zeros, pattern_of-lt}
use Rattle.gg_flat.proofs.AdvanceLemmas.{length-next_registers, next_registers-at}
use Rattle.gg_flat.proofs.BankLemmas.{AreBanks-next, AreBanks-opening, memories-valued}
use Rattle.gg_flat.proofs.ListLemmas.{some-item}

-- a register's next value has its type
next_register-fits : (edges : List Bool) (signals : List ℕ) (register : Register) (own : ℕ) → Fits (shape register.ty) own → Fits (shape register.ty) (next_register edges signals register own)
next_register-fits edges signals register own fits = choice (ticks edges register.clock) (taken_value signals register own) own (after register.reset (before register.next)) fits
  where
    choice : (b : Bool) (x y : ℕ) → Fits (shape register.ty) x → Fits (shape register.ty) y → Fits (shape register.ty) (if b then x else y)
    choice true x y first second = first
    choice false x y first second = second

    before : (next : Option (List Node)) → Fits (shape register.ty) (connected_or signals (shape register.ty) next own)
    before None = fits
    before (Some line) = pattern_of-lt (shape register.ty).width _

    after : {other : ℕ} (reset : Option Reset) → Fits (shape register.ty) other → Fits (shape register.ty) (reset_or signals (shape register.ty) reset other)
    after None other = other
    after {other} (Some reset) fit = choice (line_value signals reset.condition == 1) (connected_value signals (shape register.ty) reset.init) other (pattern_of-lt (shape register.ty).width _) fit

-- the registers' next values have their types
registers-typed : (edges : List Bool) (circuit : FlatCircuit) (own signals : List ℕ) → AreTyped (register_shapes circuit) own → AreTyped (register_shapes circuit) (next_registers edges signals circuit.registers own)
registers-typed edges circuit own signals typed =
    let long : length (register_shapes circuit) ≡ length circuit.registers = length-map circuit.registers (λ (register : Register). shape register.ty) in
    let count : length own ≡ length circuit.registers = typed.count ∙ long in
    record {
      count = length-next_registers edges signals circuit.registers own count ∙ sym long;
      fits = λ i known.
          let within : i < length circuit.registers = omega (arith, known, long) in
          let some = some-item circuit.registers i within in
          let shape_is : shape_at (register_shapes circuit) i ≡ shape (get_or circuit.registers i some).ty = get_or-map (λ (register : Register). shape register.ty) circuit.registers i some (uint 0) within in
          let old = subst (λ s. Fits s (value_at own i)) shape_is (typed.fits i known) in
          let next = next_register-fits edges signals (get_or circuit.registers i some) (value_at own i) old in
          subst (λ s. Fits s (value_at (next_registers edges signals circuit.registers own) i)) (sym shape_is)
          (subst (Fits (shape (get_or circuit.registers i some).ty)) (sym (next_registers-at edges signals circuit.registers own i some count within)) next);
    }

-- the next state is a state of the circuit
pub IsState-next : (edges : List Bool) (circuit : FlatCircuit) (state : State) (signals : List ℕ) → IsWellFormed circuit → AreTyped (signal_shapes circuit) signals → IsState circuit state → IsState circuit (next_state edges circuit state signals)
IsState-next edges circuit state signals formed typed st =
    record {
      typed = registers-typed edges circuit state.registers signals st.typed;
      held = AreBanks-next edges signals circuit.memories state.banks (memories-valued circuit signals formed typed) st.held;
    }

-- the state before the first cycle is a state of the circuit
pub IsState-opening : (circuit : FlatCircuit) → IsState circuit (opening circuit)
IsState-opening circuit =
    record {
      typed = AreTyped-zeros (register_shapes circuit) (length circuit.registers) (sym (length-map circuit.registers (λ (register : Register). shape register.ty)));
      held = AreBanks-opening circuit.memories;
    }
