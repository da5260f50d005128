-- A circuit with an order has one settled row for a state and inputs, and so one run.
use Rattle.std.proofs.Common.{◌≡◌, ℕ, zero, suc, ◌<◌, ◌≤◌, List, [], length, refl, sym, ◌∙◌, ap, subst, arith, below_more}
use Rattle.std.proofs.lemmas.List.{ext_get_or, length-map}
use Rattle.std.proofs.lemmas.Grind.{same_number_lists}
use Rattle.gg_bits.specs.Shape.{shape}
use Rattle.gg_flat.specs.Line.{value_at, shape_at}
use Rattle.gg_flat.specs.Circuit.{FlatCircuit, signal_shapes, driver_at}
use Rattle.gg_flat.specs.Clock.{edges_at}
use Rattle.gg_flat.specs.State.{State, next_state}
use Rattle.gg_flat.specs.Settled.{Settled}
use Rattle.gg_flat.specs.Run.{Start, later, IsRunFrom, state_at, row_at, inputs_at}
use Rattle.gg_flat.specs.Order.{IsOrder}
use Rattle.gg_order.proofs.RunsLemmas.AgreeLemmas.{driver_value-agree}
use Rattle.gg_flat.proofs.OrderLemmas.{read-before, place-of}

-- the signals before place i of the order have the same values in both rows
agree-below : (circuit : FlatCircuit) (order : List ℕ) (state : State) (inputs v w : List ℕ) → IsOrder circuit order → Settled circuit state inputs v → Settled circuit state inputs w → (i : ℕ) → i ≤ length order → (j : ℕ) → j < i → value_at v (value_at order j) ≡ value_at w (value_at order j)
agree-below circuit order state inputs v w o sv sw zero le j lt = absurd (omega arith)
agree-below circuit order state inputs v w o sv sw (suc i) le j lt =
    let within : i < length order = omega arith in
    let below = agree-below circuit order state inputs v w o sv sw i (omega arith) in
    let known = o.signals i within in
    let here : value_at v (value_at order i) ≡ value_at w (value_at order i) =
    sv.driven (value_at order i) known
    ∙ driver_value-agree state inputs v w (shape_at (signal_shapes circuit) (value_at order i)) (driver_at circuit (value_at order i)) (λ t named.
    let at = read-before circuit order i (value_at order i) t o within refl (record { signal = known; names = named }) in
    subst (λ x. value_at v x ≡ value_at w x) at.is (below at.place at.before))
    ∙ sym (sw.driven (value_at order i) known) in
    below_more (λ k. value_at v (value_at order k) ≡ value_at w (value_at order k)) i below here j (omega arith)

-- two settled rows of one state and one list of inputs are the same
pub Settled-once : (circuit : FlatCircuit) (order : List ℕ) (state : State) (inputs v w : List ℕ) → IsOrder circuit order → Settled circuit state inputs v → Settled circuit state inputs w → v ≡ w
Settled-once circuit order state inputs v w o sv sw =
    same_number_lists v w (sv.typed.count ∙ sym sw.typed.count) (λ s lt.
    let at = place-of circuit order s o (omega (arith, lt, sv.typed.count, length-map circuit.signals (λ signal. shape signal.ty))) in
    subst (λ x. value_at v x ≡ value_at w x) at.is (agree-below circuit order state inputs v w o sv sw (length order) (omega arith) at.place at.before))

-- two runs from a start on the same columns have the same row in a cycle, if they are in the same state before it
rows-agree : (circuit : FlatCircuit) (order : List ℕ) (start : Start) (columns : List (List ℕ)) (n : ℕ) (rows others : List (List ℕ)) → IsOrder circuit order → IsRunFrom circuit start columns n rows → IsRunFrom circuit start columns n others → (t : ℕ) → t < n → state_at circuit start rows t ≡ state_at circuit start others t → row_at rows t ≡ row_at others t
rows-agree circuit order start columns n rows others o a b t lt same =
    Settled-once circuit order (state_at circuit start rows t) (inputs_at columns (later start.cycle t)) (row_at rows t) (row_at others t) o (a.settled t lt)
    (subst (λ state. Settled circuit state (inputs_at columns (later start.cycle t)) (row_at others t)) (sym same) (b.settled t lt))

-- two runs from a start on the same columns are in the same state before each cycle
states-agree : (circuit : FlatCircuit) (order : List ℕ) (start : Start) (columns : List (List ℕ)) (n : ℕ) (rows others : List (List ℕ)) → IsOrder circuit order → IsRunFrom circuit start columns n rows → IsRunFrom circuit start columns n others → (t : ℕ) → t ≤ n → state_at circuit start rows t ≡ state_at circuit start others t
states-agree circuit order start columns n rows others o a b zero le = refl
states-agree circuit order start columns n rows others o a b (suc t) le =
    let before = states-agree circuit order start columns n rows others o a b t (omega arith) in
    let row = rows-agree circuit order start columns n rows others o a b t (omega arith) before in
    ap (λ state. next_state (edges_at start.ratios (later start.cycle t)) circuit state (row_at rows t)) before ∙ ap (next_state (edges_at start.ratios (later start.cycle t)) circuit (state_at circuit start others t)) row

-- two runs from a start on the same columns are the same
pub IsRunFrom-once : (circuit : FlatCircuit) (order : List ℕ) (start : Start) (columns : List (List ℕ)) (n : ℕ) (rows others : List (List ℕ)) → IsOrder circuit order → IsRunFrom circuit start columns n rows → IsRunFrom circuit start columns n others → rows ≡ others
IsRunFrom-once circuit order start columns n rows others o a b =
    ext_get_or [] rows others (a.count ∙ sym b.count) (λ t lt.
    let within : t < n = omega (arith, a.count, lt) in
    rows-agree circuit order start columns n rows others o a b t within (states-agree circuit order start columns n rows others o a b t (omega arith)))
