-- A signal that is done has the value that it has in each row that is settled with the inputs that it needs.
use Rattle.std.proofs.Common.{◌≡◌, ℕ, zero, suc, ◌+◌, ◌<◌, List, length, refl, sym, ◌∙◌, ap, subst, arith}
use Rattle.std.specs.List.{range_with_len}
use Rattle.gg_bits.specs.Shape.{Shape}
use Rattle.gg_flat.specs.declared.piece.Driver.{Driver}
use Rattle.gg_flat.specs.declared.piece.Driver.TheVariants.{Input, Held, MemoryWord, ReadRegister, Computed}
use Rattle.gg_flat.specs.Line.{value_at, shape_at, AreTyped}
use Rattle.gg_flat.specs.Circuit.{FlatCircuit, signal_shapes, driver_at}
use Rattle.gg_flat.specs.Reads.{Reads, Reaches}
use Rattle.gg_flat.specs.WellFormed.{IsWellFormed, MayDrive}
use Rattle.gg_flat.specs.State.{State, IsState}
use Rattle.gg_flat.specs.Settled.{Settled, driver_value}
use Rattle.gg_flat.specs.Along.{settled_along}
use Rattle.gg_order.proofs.RunsLemmas.AgreeLemmas.{driver_value-agree}
use Rattle.gg_order.proofs.RunsLemmas.AlongLemmas.{Settled-along}
use Rattle.gg_flat.specs.InOrder.{IsInOrder}
use Rattle.gg_flat.proofs.NumberLemmas.{IsOrder-numbers}
use Rattle.gg_order.proofs.NeedsLemmas.ReachLemmas.{Reaches-itself, Reaches-on, Reaches-within}
use Rattle.gg_program.specs.ConeValue.{HasNeeds, MaySettle, IsConeValue}
use Rattle.gg_program.specs.Slots.{inputs_in}
use Rattle.gg_program.specs.Right.{AreRight}
use Rattle.gg_program.proofs.RightLemmas.{value_at-inputs, IsInputs-values}

-- a driver gives the same value with other inputs, if it is no input, or if the signal has the same value with both
other-inputs : (state : State) (inputs others row : List ℕ) (sink : Shape) (driver : Driver) (x y : ℕ) → x ≡ driver_value state inputs row sink driver → y ≡ driver_value state others row sink driver → ((place : ℕ) → driver ≡ Input place → x ≡ y) → x ≡ y
other-inputs state inputs others row sink (Input place) x y first second outside = outside place refl
other-inputs state inputs others row sink (Held register) x y first second outside = first ∙ sym second
other-inputs state inputs others row sink (MemoryWord memory reader addr en) x y first second outside = first ∙ sym second
other-inputs state inputs others row sink (ReadRegister memory reader) x y first second outside = first ∙ sym second
other-inputs state inputs others row sink (Computed line) x y first second outside = first ∙ sym second

-- an in-signal that is reached has the same value in the row as among the values
same-in : (circuit : FlatCircuit) (values row : List ℕ) (out s place : ℕ) (driver : Driver) → HasNeeds circuit (inputs_in circuit values) out row → Reaches circuit out s → MayDrive circuit s driver → driver ≡ Input place → value_at row s ≡ value_at values s
same-in circuit values row out s place driver needs to may is =
    let at : MayDrive circuit s (Input place) = subst (MayDrive circuit s) is may in
    subst (λ (x : ℕ). value_at row x ≡ value_at values x) at.1 (needs place at.0 (subst (Reaches circuit out) (sym at.1) to) ∙ value_at-inputs circuit values place at.0)

-- the signals below n that are reached have the same values in the row
below-agree : (circuit : FlatCircuit) (state : State) (values others row : List ℕ) (out : ℕ) (Done : ℕ → Type 0) → IsWellFormed circuit → IsInOrder circuit → out < length circuit.signals → AreRight circuit state values Done → Settled circuit state others row → HasNeeds circuit (inputs_in circuit values) out row → (n s : ℕ) → s < n → Reaches circuit out s → Done s → value_at row s ≡ value_at values s
below-agree circuit state values others row out Done formed ordered known right settled needs zero s lt to done = absurd (omega (arith, lt))
below-agree circuit state values others row out Done formed ordered known right settled needs (suc n) s lt to done =
    let there = Reaches-within circuit out s formed known to in
    let sink = shape_at (signal_shapes circuit) s in
    other-inputs state others (inputs_in circuit values) values sink (driver_at circuit s) (value_at row s) (value_at values s)
    (settled.driven s there ∙ driver_value-agree state others row values sink (driver_at circuit s) (λ t named.
    let reads : Reads circuit s t = record { signal = there; names = named } in
    let low = ordered s t reads in
    below-agree circuit state values others row out Done formed ordered known right settled needs n t (omega (arith, lt, low)) (Reaches-on circuit out s t to reads) (right.closed s t done reads)))
    (right.driven s there done)
    (λ place is. same-in circuit values row out s place (driver_at circuit s) needs to (formed.drivers s there) is)

-- in a row that is settled with these inputs, an in-signal has its input
pub row-in : (circuit : FlatCircuit) (state : State) (inputs row : List ℕ) (place : ℕ) → IsWellFormed circuit → Settled circuit state inputs row → place < length circuit.ins → value_at row (value_at circuit.ins place) ≡ value_at inputs place
row-in circuit state inputs row place formed settled within =
    let s = value_at circuit.ins place in
    let of = formed.ins place within in
    settled.driven s of.0 ∙ ap (driver_value state inputs row (shape_at (signal_shapes circuit) s)) of.1

pub MaySettle-values : (circuit : FlatCircuit) (state : State) (values : List ℕ) (out : ℕ) → IsWellFormed circuit → IsInOrder circuit → IsState circuit state → AreTyped (signal_shapes circuit) values → MaySettle circuit state (inputs_in circuit values) out
MaySettle-values circuit state values out formed ordered st typed =
    let order = range_with_len 0 (length circuit.signals) in
    let inputs = inputs_in circuit values in
    let row = settled_along circuit order state inputs in
    let settled = Settled-along circuit order state inputs formed (IsOrder-numbers circuit ordered) st (IsInputs-values circuit values formed typed) in
    record {
      others = inputs;
      row = row;
      settled = settled;
      needs = λ place within reaches. row-in circuit state inputs row place formed settled within;
    }

pub IsConeValue-done : (circuit : FlatCircuit) (state : State) (inputs values : List ℕ) (out value : ℕ) (Done : ℕ → Type 0) → IsWellFormed circuit → IsInOrder circuit → out < length circuit.signals → IsState circuit state → AreTyped (signal_shapes circuit) values → AreRight circuit state values Done → Done out → inputs_in circuit values ≡ inputs → value ≡ value_at values out → IsConeValue circuit state inputs out value
IsConeValue-done circuit state inputs values out value Done formed ordered known st typed right done same is =
    subst (λ (l : List ℕ). IsConeValue circuit state l out value) same
    (record {
      every = λ others row settled needs.
          below-agree circuit state values others row out Done formed ordered known right settled needs (out + 1) out (omega arith) (Reaches-itself circuit out) done ∙ sym is;
      some = MaySettle-values circuit state values out formed ordered st typed;
    })
