-- Writing each signal's driver's value along an order makes a settled row.
use Rattle.std.proofs.Common.{◌≡◌, ◌≢◌, ℕ, ◌<◌, ◌≤◌, ◌+◌, List, length, set, refl, sym, ◌∙◌, subst, arith, below_more}
use Rattle.std.proofs.lemmas.List.{get_or-set_same, get_or-set_other, length-map}
use Rattle.gg_bits.specs.Shape.{shape, Fits}
use Rattle.gg_flat.specs.Line.{shape_at, value_at, AreTyped}
use Rattle.gg_flat.specs.Circuit.{FlatCircuit, signal_shapes, driver_at}
use Rattle.gg_flat.specs.State.{State}
use Rattle.gg_flat.specs.Settled.{Settled, driver_value}
use Rattle.gg_flat.specs.Order.{IsOrder}
use Rattle.gg_order.proofs.RunsLemmas.AgreeLemmas.{driver_value-agree}
use Rattle.gg_flat.proofs.OrderLemmas.{read-before, place-of}
use Rattle.gg_flat.proofs.TypedLemmas.{AreTyped-set}

-- signal a has its driver's value
abbrev pub IsDriven : FlatCircuit → State → List ℕ → List ℕ → ℕ → Type 0
IsDriven circuit state inputs signals a = value_at signals a ≡ driver_value state inputs signals (shape_at (signal_shapes circuit) a) (driver_at circuit a)

-- the signals before place i of the order have their drivers' values
pub record Partly (circuit : FlatCircuit) (state : State) (inputs order : List ℕ) (i : ℕ) (signals : List ℕ) : Type 0 where
  pub typed : AreTyped (signal_shapes circuit) signals
  pub driven : (j : ℕ) → j < i → IsDriven circuit state inputs signals (value_at order j)

pub Partly-none : (circuit : FlatCircuit) (state : State) (inputs order signals : List ℕ) → AreTyped (signal_shapes circuit) signals → Partly circuit state inputs order 0 signals
Partly-none circuit state inputs order signals typed = record { typed = typed; driven = λ j lt. absurd (omega arith) }

-- a write to the signal at place i doesn't change the driver's value of a signal at place i or before it
still-driven : (circuit : FlatCircuit) (order : List ℕ) (state : State) (inputs signals : List ℕ) (i j value : ℕ) → IsOrder circuit order → i < length order → j ≤ i → driver_value state inputs signals (shape_at (signal_shapes circuit) (value_at order j)) (driver_at circuit (value_at order j)) ≡ driver_value state inputs (set signals (value_at order i) value) (shape_at (signal_shapes circuit) (value_at order j)) (driver_at circuit (value_at order j))
still-driven circuit order state inputs signals i j value o lt le =
    let within : j < length order = omega arith in
    driver_value-agree state inputs signals (set signals (value_at order i) value) (shape_at (signal_shapes circuit) (value_at order j)) (driver_at circuit (value_at order j)) (λ t named.
    let at = read-before circuit order j (value_at order j) t o within refl (record { signal = o.signals j within; names = named }) in
    let other : t ≢ value_at order i = λ same. o.once at.place i 0 (omega (arith, at.before, le)) lt (at.is ∙ same) in
    sym (get_or-set_other signals (value_at order i) t value 0 other))

-- the signal at place i gets its driver's value
pub Partly-more : (circuit : FlatCircuit) (state : State) (inputs order : List ℕ) (i : ℕ) (signals : List ℕ) (value : ℕ) → IsOrder circuit order → i < length order → Partly circuit state inputs order i signals → value ≡ driver_value state inputs signals (shape_at (signal_shapes circuit) (value_at order i)) (driver_at circuit (value_at order i)) → Fits (shape_at (signal_shapes circuit) (value_at order i)) value → Partly circuit state inputs order (i + 1) (set signals (value_at order i) value)
Partly-more circuit state inputs order i signals value o lt partly is fits =
    let known : value_at order i < length (signal_shapes circuit) = omega (arith, o.signals i lt, length-map circuit.signals (λ signal. shape signal.ty)) in
    let below : (j : ℕ) → j < i → IsDriven circuit state inputs (set signals (value_at order i) value) (value_at order j) = λ j before.
    get_or-set_other signals (value_at order i) (value_at order j) value 0 (o.once j i 0 before lt)
    ∙ partly.driven j before
    ∙ still-driven circuit order state inputs signals i j value o lt (omega arith) in
    let here : IsDriven circuit state inputs (set signals (value_at order i) value) (value_at order i) =
    get_or-set_same signals (value_at order i) value 0 (omega (arith, known, partly.typed.count))
    ∙ is
    ∙ still-driven circuit order state inputs signals i i value o lt (omega arith) in
    record {
      typed = AreTyped-set (signal_shapes circuit) signals (value_at order i) value partly.typed known fits;
      driven = below_more (λ j. IsDriven circuit state inputs (set signals (value_at order i) value) (value_at order j)) i below here;
    }

-- at the end of the order the row is settled
pub Settled-from_Partly : (circuit : FlatCircuit) (state : State) (inputs order signals : List ℕ) → IsOrder circuit order → Partly circuit state inputs order (length order) signals → Settled circuit state inputs signals
Settled-from_Partly circuit state inputs order signals o partly =
    record {
      typed = partly.typed;
      driven = λ s known. let at = place-of circuit order s o known in subst (IsDriven circuit state inputs signals) at.is (partly.driven at.place at.before);
    }
