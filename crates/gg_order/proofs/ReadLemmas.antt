-- What signals read, in a circuit that is well formed.
use Rattle.std.proofs.Common.{◌≡◌, ℕ, ◌<◌, List, length, map, inl, inr, refl, sym, ◌∙◌, subst, arith}
use Rattle.std.specs.Prelude.{Option, Some, None, MatchOption, slice_get, ⊤}
use Rattle.std.proofs.lemmas.List.{length-map, get_or_default}
use Rattle.std.proofs.lemmas.Option.{get_or_from_slice_get, slice_get_within}
use Rattle.gg_bits.specs.Shape.{Shape, shape}
use Rattle.gg_flat.specs.declared.line.Node.{Node}
use Rattle.gg_flat.specs.declared.line.Op.{Op}
use Rattle.gg_flat.specs.declared.line.Op.TheVariants.{Ref}
use Rattle.gg_flat.specs.declared.piece.Driver.{Driver}
use Rattle.gg_flat.specs.declared.piece.Driver.TheVariants.{Input, Held, MemoryWord, ReadRegister, Computed}
use Rattle.gg_flat.specs.declared.piece.Register.{Register}
use Rattle.gg_flat.specs.declared.piece.Reset.{Reset}
use Rattle.gg_flat.specs.declared.piece.Signal.{Signal}
use Rattle.gg_flat.specs.Line.{shape_at, shapes_of, op_at, HasShape, HasType, IsLine, IsSource}
use Rattle.gg_flat.specs.Circuit.{FlatCircuit, driver_at, signal_shapes}
use Rattle.gg_flat.specs.WellFormed.{IsWellFormed, IsRegister, IsReset, MayDrive}
use Rattle.gg_flat.specs.Reads.{Names, NamesSignal, ResetNames, NextNames, RegisterNames}
use Rattle.gg_flat.proofs.TypedLemmas.{has-reader, word-names}

-- a line over signals names only these
line_within : (shapes : List Shape) (nodes : List Node) (s : ℕ) → IsLine (HasType shapes) nodes → Names nodes s → s < length shapes
line_within shapes nodes s line h =
    let ops = map (λ (m : Node). m.op) nodes in
    let within : h.0 < length nodes = omega (arith, h.1, length-map nodes (λ (m : Node). m.op)) in
    let is : op_at nodes h.0 ≡ Ref s = get_or_default ops h.0 (Ref 0) (Ref s) h.1 ∙ h.2 in
    let at : HasShape (HasType shapes) (shapes_of nodes) h.0 (shape_at (shapes_of nodes) h.0) (Ref s) =
    subst (λ (op : Op). HasShape (HasType shapes) (shapes_of nodes) h.0 (shape_at (shapes_of nodes) h.0) op) is (line.typed h.0 within) in
    at.0

driver_within : (circuit : FlatCircuit) (a s : ℕ) (d : Driver) → IsWellFormed circuit → driver_at circuit a ≡ d → MayDrive circuit a d → NamesSignal d s → s < length circuit.signals
driver_within circuit a s (Input place) formed is may h = absurd h
driver_within circuit a s (Held register) formed is may h = absurd h
driver_within circuit a s (MemoryWord m r addr en) formed is may h =
    let has = has-reader circuit m r a formed may in
    let names = word-names has.memory.latency m r has.reader addr en (sym has.driver ∙ is) in
    let count = length-map circuit.signals (λ (signal : Signal). shape signal.ty) in
    let address : has.reader.addr < length circuit.signals = omega (arith, has.fields.address.0, count) in
    let enable : has.reader.en < length circuit.signals = omega (arith, has.fields.enable.0, count) in
    elim h [
      | inl e ↦ subst (λ x. x < length circuit.signals) (names.0 ∙ e) address
      | inr e ↦ subst (λ x. x < length circuit.signals) (names.1 ∙ e) enable
    ]
driver_within circuit a s (ReadRegister m r) formed is may h = absurd h
driver_within circuit a s (Computed line) formed is may h =
    omega (arith, line_within (signal_shapes circuit) line s may.line h, length-map circuit.signals (λ (signal : Signal). shape signal.ty))

-- what a signal reads is a signal of the circuit
pub names_within : (circuit : FlatCircuit) (a s : ℕ) → IsWellFormed circuit → a < length circuit.signals → NamesSignal (driver_at circuit a) s → s < length circuit.signals
names_within circuit a s formed within h = driver_within circuit a s (driver_at circuit a) formed refl (formed.drivers a within) h

-- ---- what registers name

source_within : (circuit : FlatCircuit) (sink : Shape) (line : List Node) (s : ℕ) → IsSource (HasType (signal_shapes circuit)) sink line → Names line s → s < length circuit.signals
source_within circuit sink line s source h =
    omega (arith, line_within (signal_shapes circuit) line s source.line h, length-map circuit.signals (λ (signal : Signal). shape signal.ty))

reset_within : (circuit : FlatCircuit) (sink : Shape) (reset : Option Reset) (s : ℕ) → MatchOption reset ⊤ (IsReset (HasType (signal_shapes circuit)) sink) → ResetNames reset s → s < length circuit.signals
reset_within circuit sink None s is h = absurd h
reset_within circuit sink (Some reset) s is (inl h) =
    omega (arith, line_within (signal_shapes circuit) reset.condition s is.condition.line h, length-map circuit.signals (λ (signal : Signal). shape signal.ty))
reset_within circuit sink (Some reset) s is (inr h) = source_within circuit sink reset.init s is.init h

next_within : (circuit : FlatCircuit) (sink : Shape) (next : Option (List Node)) (s : ℕ) → MatchOption next ⊤ (IsSource (HasType (signal_shapes circuit)) sink) → NextNames next s → s < length circuit.signals
next_within circuit sink None s is h = absurd h
next_within circuit sink (Some line) s is h = source_within circuit sink line s is h

-- what a register names is a signal of the circuit
pub register-names_within : (circuit : FlatCircuit) (r s : ℕ) (register : Register) → IsWellFormed circuit → slice_get circuit.registers r ≡ Some register → RegisterNames register s → s < length circuit.signals
register-names_within circuit r s register formed is names =
    elim names [
      | inl h ↦ reset_within circuit (shape register.ty) register.reset s known.reset h
      | inr h ↦ next_within circuit (shape register.ty) register.next s known.next h
    ]
  where
    known : IsRegister (HasType (signal_shapes circuit)) register
    known = subst (IsRegister (HasType (signal_shapes circuit))) (get_or_from_slice_get circuit.registers r register register is) (formed.registers r register (slice_get_within circuit.registers r register is))
