-- A row that is worked out along an order is settled, and the rows of all cycles are a run.
use Rattle.std.proofs.Common.{ℕ, zero, suc, ◌<◌, ◌≤◌, ◌+◌, List, length, take, replicate, refl, sym, subst, arith, add-one}
use Rattle.std.specs.Prelude.{fold}
use Rattle.std.proofs.lemmas.List.{length-map}
use Rattle.std.proofs.lemmas.List.Sums.{fold_more}
use Rattle.std.proofs.Math.Seq.{take-length}
use Rattle.gg_bits.specs.Shape.{shape}
use Rattle.gg_flat.specs.declared.piece.Signal.{Signal}
use Rattle.gg_flat.specs.Clock.{edges_at}
use Rattle.gg_flat.specs.Line.{shape_at, value_at, AreTyped}
use Rattle.gg_flat.specs.Circuit.{FlatCircuit, signal_shapes, driver_at}
use Rattle.gg_flat.specs.WellFormed.{IsWellFormed}
use Rattle.gg_flat.specs.State.{State, IsState}
use Rattle.gg_flat.specs.Settled.{Settled, IsInputs, driver_value}
use Rattle.gg_flat.specs.Run.{Start, later, opening_start, IsRunFrom, IsRun, IsColumns, state_at, row_at, inputs_at}
use Rattle.gg_flat.specs.Order.{IsOrder}
use Rattle.gg_flat.specs.Along.{with_signal, settled_along, rows_from}
use Rattle.gg_flat.specs.inside.Along.{rows_along}
use Rattle.gg_flat.proofs.TypedLemmas.{AreTyped-zeros, HasSource-from, driver_value-fits}
use Rattle.gg_order.proofs.RunsLemmas.SettleLemmas.{Partly, Partly-none, Partly-more, Settled-from_Partly}
use Rattle.gg_order.proofs.RunsLemmas.RunLemmas.{IsRunFrom-none, IsRunFrom-push}
use Rattle.gg_flat.proofs.StateLemmas.{IsState-next, IsState-opening}

-- after i steps along the order, its first i signals have their drivers' values
Partly-along : (circuit : FlatCircuit) (order : List ℕ) (state : State) (inputs start : List ℕ) → IsWellFormed circuit → IsOrder circuit order → IsState circuit state → IsInputs circuit inputs → AreTyped (signal_shapes circuit) start → (i : ℕ) → i ≤ length order → Partly circuit state inputs order i (fold (with_signal circuit state inputs) start (take i order))
Partly-along circuit order state inputs start formed o st ins typed zero le = Partly-none circuit state inputs order start typed
Partly-along circuit order state inputs start formed o st ins typed (suc i) le =
    let within : i < length order = omega arith in
    let before = Partly-along circuit order state inputs start formed o st ins typed i (omega arith) in
    let values = fold (with_signal circuit state inputs) start (take i order) in
    let s = value_at order i in
    let source = HasSource-from circuit state inputs values s (driver_at circuit s) formed st ins before.typed refl (formed.drivers s (o.signals i within)) in
    let more = Partly-more circuit state inputs order i values (driver_value state inputs values (shape_at (signal_shapes circuit) s) (driver_at circuit s)) o within before refl (driver_value-fits state inputs values (shape_at (signal_shapes circuit) s) (driver_at circuit s) source) in
    subst (λ n. Partly circuit state inputs order n (fold (with_signal circuit state inputs) start (take n order))) (add-one i)
    (subst (Partly circuit state inputs order (i + 1)) (sym (fold_more (with_signal circuit state inputs) start order i 0 within)) more)

-- what is worked out along an order is settled
pub Settled-along : (circuit : FlatCircuit) (order : List ℕ) (state : State) (inputs : List ℕ) → IsWellFormed circuit → IsOrder circuit order → IsState circuit state → IsInputs circuit inputs → Settled circuit state inputs (settled_along circuit order state inputs)
Settled-along circuit order state inputs formed o st ins =
    let zeros = AreTyped-zeros (signal_shapes circuit) (length circuit.signals) (sym (length-map circuit.signals (λ (signal : Signal). shape signal.ty))) in
    Settled-from_Partly circuit state inputs order (settled_along circuit order state inputs) o
    (subst (λ done. Partly circuit state inputs order (length order) (fold (with_signal circuit state inputs) (replicate (length circuit.signals) 0) done)) (take-length order)
    (Partly-along circuit order state inputs (replicate (length circuit.signals) 0) formed o st ins zeros (length order) (omega arith)))

-- the states of a run are states of the circuit
pub IsState-at : (circuit : FlatCircuit) (start : Start) (columns : List (List ℕ)) (n : ℕ) (rows : List (List ℕ)) → IsWellFormed circuit → IsState circuit start.state → IsRunFrom circuit start columns n rows → (t : ℕ) → t ≤ n → IsState circuit (state_at circuit start rows t)
IsState-at circuit start columns n rows formed st run zero le = st
IsState-at circuit start columns n rows formed st run (suc t) le =
    IsState-next (edges_at start.ratios (later start.cycle t)) circuit (state_at circuit start rows t) (row_at rows t) formed (run.settled t (omega arith)).typed (IsState-at circuit start columns n rows formed st run t (omega arith))

-- the rows worked out along an order are a run from a start, if the columns have inputs in each cycle
pub IsRunFrom-along : (circuit : FlatCircuit) (order : List ℕ) (start : Start) (columns : List (List ℕ)) (n : ℕ) → IsWellFormed circuit → IsOrder circuit order → IsState circuit start.state → ((t : ℕ) → t < n → IsInputs circuit (inputs_at columns (later start.cycle t))) → IsRunFrom circuit start columns n (rows_from circuit order start columns n)
IsRunFrom-along circuit order start columns zero formed o st typed = IsRunFrom-none circuit start columns
IsRunFrom-along circuit order start columns (suc n) formed o st typed =
    let rows = rows_from circuit order start columns n in
    let run = IsRunFrom-along circuit order start columns n formed o st (λ t lt. typed t (omega arith)) in
    let state = IsState-at circuit start columns n rows formed st run n (omega arith) in
    subst (λ m. IsRunFrom circuit start columns m (rows_from circuit order start columns (suc n))) (add-one n)
    (IsRunFrom-push circuit start columns n rows _ run (Settled-along circuit order (state_at circuit start rows n) (inputs_at columns (later start.cycle n)) formed o state (typed n (omega arith))))

-- the rows worked out along an order are a run from the opening
pub IsRun-along : (circuit : FlatCircuit) (order : List ℕ) (columns : List (List ℕ)) (n : ℕ) → IsWellFormed circuit → IsOrder circuit order → IsColumns circuit n columns → IsRun circuit columns n (rows_along circuit order columns n)
IsRun-along circuit order columns n formed o typed = IsRunFrom-along circuit order (opening_start circuit) columns n formed o (IsState-opening circuit) typed.inputs
