-- Values that are right for the signals that are done, signal by signal.
use Rattle.std.proofs.Common.{◌≡◌, ◌≢◌, ℕ, ◌<◌, List, [], length, set, Bool, true, false, true≢false, nat_eq, refl, sym, ◌∙◌, ap, subst, inl, inr, ◌⊎◌, arith}
use Rattle.std.proofs.lemmas.Bool.Decides.{Decides-eqb}
use Rattle.std.proofs.lemmas.List.{get_or-map, get_or-set_same, get_or-set_other, length-set, length-map}
use Rattle.std.proofs.lemmas.Grind.{same_number_lists}
use Rattle.gg_bits.specs.Shape.{Shape, shape, Fits}
use Rattle.gg_flat.specs.declared.piece.Signal.{Signal}
use Rattle.gg_flat.specs.declared.piece.Driver.{Driver}
use Rattle.gg_flat.specs.declared.piece.Driver.TheVariants.{Input, Held, MemoryWord, ReadRegister, Computed}
use Rattle.gg_flat.specs.Line.{shape_at, value_at, AreTyped}
use Rattle.gg_flat.specs.Circuit.{FlatCircuit, signal_shapes, driver_at}
use Rattle.gg_flat.specs.Reads.{Reads, NamesSignal}
use Rattle.gg_flat.specs.WellFormed.{IsWellFormed, MayDrive}
use Rattle.gg_flat.specs.State.{State}
use Rattle.gg_flat.specs.Settled.{IsInputs, in_shapes, driver_value}
use Rattle.gg_flat.specs.inside.Settled.{HasSource}
use Rattle.gg_order.proofs.RunsLemmas.AgreeLemmas.{driver_value-agree}
use Rattle.gg_flat.proofs.TypedLemmas.{shape_at-in_shapes}
use Rattle.gg_flat.specs.InOrder.{IsInOrder}
use Rattle.gg_program.specs.Slots.{inputs_in}
use Rattle.gg_program.specs.Right.{AreRight}
use Rattle.gg_program.specs.inside.Right.{IsInner}

-- ---- drivers that aren't inputs

-- such a driver gives the same value with other inputs
pub inner-value : (state : State) (inputs others values : List ℕ) (sink : Shape) (driver : Driver) → ((place : ℕ) → driver ≢ Input place) → driver_value state inputs values sink driver ≡ driver_value state others values sink driver
inner-value state inputs others values sink (Input place) not = absurd (not place refl)
inner-value state inputs others values sink (Held register) not = refl
inner-value state inputs others values sink (MemoryWord memory reader addr en) not = refl
inner-value state inputs others values sink (ReadRegister memory reader) not = refl
inner-value state inputs others values sink (Computed line) not = refl

-- and can be evaluated without inputs
pub inner-source : (state : State) (inputs values : List ℕ) (sink : Shape) (driver : Driver) → ((place : ℕ) → driver ≢ Input place) → HasSource state inputs values sink driver → HasSource state [] values sink driver
inner-source state inputs values sink (Input place) not has = absurd (not place refl)
inner-source state inputs values sink (Held register) not has = has
inner-source state inputs values sink (MemoryWord memory reader addr en) not has = has
inner-source state inputs values sink (ReadRegister memory reader) not has = has
inner-source state inputs values sink (Computed line) not has = has

-- ---- the inputs in the places of the in-signals

pub value_at-inputs : (circuit : FlatCircuit) (values : List ℕ) (place : ℕ) → place < length circuit.ins → value_at (inputs_in circuit values) place ≡ value_at values (value_at circuit.ins place)
value_at-inputs circuit values place within = get_or-map (value_at values) circuit.ins place 0 0 within

pub inputs-kept : (circuit : FlatCircuit) (before after : List ℕ) → ((place : ℕ) → place < length circuit.ins → value_at after (value_at circuit.ins place) ≡ value_at before (value_at circuit.ins place)) → inputs_in circuit after ≡ inputs_in circuit before
inputs-kept circuit before after keeps =
    same_number_lists (inputs_in circuit after) (inputs_in circuit before)
    (length-map circuit.ins (value_at after) ∙ sym (length-map circuit.ins (value_at before)))
    (λ place lt.
    let within : place < length circuit.ins = omega (arith, lt, length-map circuit.ins (value_at after)) in
    value_at-inputs circuit after place within ∙ keeps place within ∙ sym (value_at-inputs circuit before place within))

-- a value that is put for a signal that isn't an in-signal leaves the inputs as they are
pub inputs-inner : (circuit : FlatCircuit) (values : List ℕ) (s value : ℕ) → IsWellFormed circuit → IsInner circuit s → inputs_in circuit (set values s value) ≡ inputs_in circuit values
inputs-inner circuit values s value formed inner =
    inputs-kept circuit values (set values s value) (λ place within.
    get_or-set_other values s (value_at circuit.ins place) value 0 (λ same. inner.inner place (ap (driver_at circuit) (sym same) ∙ (formed.ins place within).1)))

-- an in-signal has only one place among the in-signals
place-once : (a b : ℕ) → Input a ≡ Input b → a ≡ b
place-once a b is = cc

pub ins-once : (circuit : FlatCircuit) (i j : ℕ) → IsWellFormed circuit → i < length circuit.ins → j < length circuit.ins → value_at circuit.ins i ≡ value_at circuit.ins j → i ≡ j
ins-once circuit i j formed first second same = place-once i j (sym (formed.ins i first).1 ∙ ap (driver_at circuit) same ∙ (formed.ins j second).1)

-- a value that is put for an in-signal changes just its input
pub inputs-put : (circuit : FlatCircuit) (values : List ℕ) (place value : ℕ) → IsWellFormed circuit → place < length circuit.ins → length values ≡ length circuit.signals → inputs_in circuit (set values (value_at circuit.ins place) value) ≡ set (inputs_in circuit values) place value
inputs-put circuit values place value formed within total =
    same_number_lists (inputs_in circuit after) (set (inputs_in circuit values) place value)
    (length-map circuit.ins (value_at after) ∙ sym (length-set (inputs_in circuit values) place value ∙ count))
    (λ i lt. by i (omega (arith, lt, length-map circuit.ins (value_at after))) (nat_eq i place) refl)
  where
    after : List ℕ
    after = set values (value_at circuit.ins place) value

    count : length (inputs_in circuit values) ≡ length circuit.ins
    count = length-map circuit.ins (value_at values)

    by : (i : ℕ) → i < length circuit.ins → (b : Bool) → nat_eq i place ≡ b → value_at (inputs_in circuit after) i ≡ value_at (set (inputs_in circuit values) place value) i
    by i inside true e =
        let at : i ≡ place = (Decides-eqb i place).0 e in
        value_at-inputs circuit after i inside
        ∙ ap (λ (k : ℕ). value_at after (value_at circuit.ins k)) at
        ∙ get_or-set_same values (value_at circuit.ins place) value 0 (omega (arith, (formed.ins place within).0, total))
        ∙ sym (get_or-set_same (inputs_in circuit values) place value 0 (omega (arith, within, count)))
        ∙ ap (value_at (set (inputs_in circuit values) place value)) (sym at)
    by i inside false e =
        let other : i ≢ place = λ same. true≢false (sym ((Decides-eqb i place).1 same) ∙ e) in
        value_at-inputs circuit after i inside
        ∙ get_or-set_other values (value_at circuit.ins place) (value_at circuit.ins i) value 0 (λ same. other (ins-once circuit i place formed inside within same))
        ∙ sym (value_at-inputs circuit values i inside)
        ∙ sym (get_or-set_other (inputs_in circuit values) place i value 0 other)

pub IsInputs-values : (circuit : FlatCircuit) (values : List ℕ) → IsWellFormed circuit → AreTyped (signal_shapes circuit) values → IsInputs circuit (inputs_in circuit values)
IsInputs-values circuit values formed typed =
    record {
      count = length-map circuit.ins (value_at values) ∙ sym (length-map circuit.ins (shape_at (signal_shapes circuit)));
      fits = λ place lt.
          let within : place < length circuit.ins = omega (arith, lt, length-map circuit.ins (shape_at (signal_shapes circuit))) in
          subst (λ (v : ℕ). Fits (shape_at (in_shapes circuit) place) v) (sym (value_at-inputs circuit values place within))
          (subst (λ sh. Fits sh (value_at values (value_at circuit.ins place))) (sym (shape_at-in_shapes circuit place within))
          (typed.fits (value_at circuit.ins place) (omega (arith, (formed.ins place within).0, length-map circuit.signals (λ (signal : Signal). shape signal.ty)))));
    }

-- ---- one more signal

-- an in-signal has its input, and any other signal its driver's value, whatever the inputs are
driven-anyhow : (circuit : FlatCircuit) (state : State) (others values : List ℕ) (s : ℕ) (sink : Shape) (driver : Driver) → MayDrive circuit s driver → (((place : ℕ) → driver ≢ Input place) → value_at values s ≡ driver_value state others values sink driver) → value_at values s ≡ driver_value state (inputs_in circuit values) values sink driver
driven-anyhow circuit state others values s sink (Input place) may is = ap (value_at values) (sym may.1) ∙ sym (value_at-inputs circuit values place may.0)
driven-anyhow circuit state others values s sink (Held register) may is = is (λ place same. not-held register place same)
  where
    not-held : (register place : ℕ) → Held register ≢ Input place
    not-held register place same = cc
driven-anyhow circuit state others values s sink (MemoryWord memory reader addr en) may is = is (λ place same. not-word place same)
  where
    not-word : (place : ℕ) → MemoryWord memory reader addr en ≢ Input place
    not-word place same = cc
driven-anyhow circuit state others values s sink (ReadRegister memory reader) may is = is (λ place same. not-read place same)
  where
    not-read : (place : ℕ) → ReadRegister memory reader ≢ Input place
    not-read place same = cc
driven-anyhow circuit state others values s sink (Computed line) may is = is (λ place same. not-line place same)
  where
    not-line : (place : ℕ) → Computed line ≢ Input place
    not-line place same = cc

pub AreRight-same : (circuit : FlatCircuit) (state : State) (values : List ℕ) (P Q : ℕ → Type 0) → ((s : ℕ) → P s → Q s) → ((s : ℕ) → Q s → P s) → AreRight circuit state values P → AreRight circuit state values Q
AreRight-same circuit state values P Q to from h =
    record {
      closed = λ a b q reads. to b (h.closed a b (from a q) reads);
      driven = λ s known q. h.driven s known (from s q);
    }

-- if no signal is done, the values are right
pub AreRight-none : (circuit : FlatCircuit) (state : State) (values : List ℕ) (P : ℕ → Type 0) → ((s : ℕ) → ¬ P s) → AreRight circuit state values P
AreRight-none circuit state values P none = record { closed = λ a b p reads. absurd (none a p); driven = λ s known p. absurd (none s p) }

-- values stay right if an input is put
pub AreRight-put : (circuit : FlatCircuit) (state : State) (values : List ℕ) (place value : ℕ) (Done More : ℕ → Type 0) → IsWellFormed circuit → place < length circuit.ins → ¬ Done (value_at circuit.ins place) → ((t : ℕ) → More t → Done t ⊎ (value_at circuit.ins place ≡ t)) → ((t : ℕ) → Done t → More t) → AreRight circuit state values Done → AreRight circuit state (set values (value_at circuit.ins place) value) More
AreRight-put circuit state values place value Done More formed within free cases kept h =
    record {
      closed = λ a b more reads. elim (cases a more) [
        | inl done ↦ kept b (h.closed a b done reads)
        | inr same ↦ absurd (subst (λ (d : Driver). NamesSignal d b) (ap (driver_at circuit) (sym same) ∙ (formed.ins place within).1) reads.names)
      ];
      driven = λ t known more. driven-anyhow circuit state (inputs_in circuit values) after t (shape_at (signal_shapes circuit) t) (driver_at circuit t) (formed.drivers t known)
          (λ inner. elim (cases t more) [
            | inl done ↦ old t known done
            | inr same ↦ absurd (inner place (ap (driver_at circuit) (sym same) ∙ (formed.ins place within).1))
          ]);
    }
  where
    s : ℕ
    s = value_at circuit.ins place

    after : List ℕ
    after = set values s value

    agree : (t : ℕ) → Done t → value_at after t ≡ value_at values t
    agree t done = get_or-set_other values s t value 0 (λ same. free (subst Done same done))

    old : (t : ℕ) → t < length circuit.signals → Done t → value_at after t ≡ driver_value state (inputs_in circuit values) after (shape_at (signal_shapes circuit) t) (driver_at circuit t)
    old t known done =
        agree t done ∙ h.driven t known done
        ∙ driver_value-agree state (inputs_in circuit values) values after (shape_at (signal_shapes circuit) t) (driver_at circuit t) (λ u named. sym (agree u (h.closed t u done (record { signal = known; names = named }))))

-- values stay right if a signal is worked out that reads only signals that are done
pub AreRight-more : (circuit : FlatCircuit) (state : State) (values : List ℕ) (s value : ℕ) (Done More : ℕ → Type 0) → IsWellFormed circuit → IsInOrder circuit → IsInner circuit s → length values ≡ length circuit.signals → ((t : ℕ) → Reads circuit s t → Done t) → value ≡ driver_value state [] values (shape_at (signal_shapes circuit) s) (driver_at circuit s) → ((t : ℕ) → More t → Done t ⊎ (s ≡ t)) → ((t : ℕ) → Done t → More t) → AreRight circuit state values Done → AreRight circuit state (set values s value) More
AreRight-more circuit state values s value Done More formed ordered inner count reads is cases kept h =
    record {
      closed = λ a b more read. elim (cases a more) [
        | inl done ↦ kept b (h.closed a b done read)
        | inr same ↦ kept b (reads b (subst (λ (x : ℕ). Reads circuit x b) (sym same) read))
      ];
      driven = λ t known more. elim (cases t more) [
        | inl done ↦ driven-anyhow circuit state (inputs_in circuit values) after t (shape_at (signal_shapes circuit) t) (driver_at circuit t) (formed.drivers t known) (λ other. old t known done)
        | inr same ↦ subst (λ (x : ℕ). value_at after x ≡ driver_value state (inputs_in circuit after) after (shape_at (signal_shapes circuit) x) (driver_at circuit x)) same new
      ];
    }
  where
    after : List ℕ
    after = set values s value

    written : value_at after s ≡ value
    written = get_or-set_same values s value 0 (omega (arith, inner.known, count))

    below : (u : ℕ) → Reads circuit s u → u ≢ s
    below u read same = let lt = ordered s u read in absurd (omega (arith, lt, same))

    new : value_at after s ≡ driver_value state (inputs_in circuit after) after (shape_at (signal_shapes circuit) s) (driver_at circuit s)
    new =
        written ∙ is
        ∙ driver_value-agree state [] values after (shape_at (signal_shapes circuit) s) (driver_at circuit s) (λ u named. sym (get_or-set_other values s u value 0 (below u (record { signal = inner.known; names = named }))))
        ∙ inner-value state [] (inputs_in circuit after) after (shape_at (signal_shapes circuit) s) (driver_at circuit s) inner.inner

    agree : (u : ℕ) → Done u → value_at after u ≡ value_at values u
    agree u done = by (nat_eq u s) refl
      where
        by : (b : Bool) → nat_eq u s ≡ b → value_at after u ≡ value_at values u
        by true e =
            let same : u ≡ s = (Decides-eqb u s).0 e in
            subst (λ (x : ℕ). value_at after x ≡ value_at values x) (sym same)
            (written ∙ is ∙ inner-value state [] (inputs_in circuit values) values (shape_at (signal_shapes circuit) s) (driver_at circuit s) inner.inner ∙ sym (h.driven s inner.known (subst Done same done)))
        by false e = get_or-set_other values s u value 0 (λ same. true≢false (sym ((Decides-eqb u s).1 same) ∙ e))

    old : (t : ℕ) → t < length circuit.signals → Done t → value_at after t ≡ driver_value state (inputs_in circuit values) after (shape_at (signal_shapes circuit) t) (driver_at circuit t)
    old t known done =
        agree t done ∙ h.driven t known done
        ∙ driver_value-agree state (inputs_in circuit values) values after (shape_at (signal_shapes circuit) t) (driver_at circuit t) (λ u named. sym (agree u (h.closed t u done (record { signal = known; names = named }))))
