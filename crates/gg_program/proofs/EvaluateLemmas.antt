-- Signals that are worked out one after another are right.
use Rattle.std.proofs.Common.{◌≡◌, ℕ, ◌+◌, ◌<◌, ◌≤◌, List, [], ◌∷◌, ◌++◌, length, take, set, Bool, true, false, true≢false, sym, ◌∙◌, ap, subst, inl, inr, ◌⊎◌, arith}
use Rattle.std.specs.Prelude.{Contains}
use Rattle.std.proofs.lemmas.Bool.{cases_lt}
use Rattle.std.proofs.lemmas.List.{length-map, take_all, take_more}
use Rattle.std.proofs.lemmas.List.Elements.{Contains-append_left, Contains-append_cases}
use Rattle.gg_bits.specs.Shape.{shape, Fits}
use Rattle.gg_flat.specs.declared.piece.Signal.{Signal}
use Rattle.gg_flat.specs.declared.piece.Driver.TheVariants.{Input}
use Rattle.gg_flat.specs.Line.{shape_at, value_at, AreTyped}
use Rattle.gg_flat.specs.Circuit.{FlatCircuit, signal_shapes, driver_at}
use Rattle.gg_flat.specs.Reads.{Reads}
use Rattle.gg_flat.specs.WellFormed.{IsWellFormed, MayDrive}
use Rattle.gg_flat.specs.State.{State}
use Rattle.gg_flat.specs.Settled.{driver_value}
use Rattle.gg_flat.proofs.NameLemmas.{Contains-one}
use Rattle.gg_flat.proofs.TypedLemmas.{AreTyped-set}
use Rattle.gg_flat.specs.InOrder.{IsInOrder}
use Rattle.gg_order.specs.Marks.{is_marked}
use Rattle.gg_program.specs.Slots.{inputs_in}
use Rattle.gg_program.specs.Right.{AreRight}
use Rattle.gg_program.specs.inside.Right.{IsInner}
use Rattle.gg_program.specs.inside.Search.{StandBehind}
use Rattle.gg_program.proofs.RightLemmas.{inputs-inner, AreRight-same, AreRight-more}

-- there is a value for each signal
pub values-count : (circuit : FlatCircuit) (values : List ℕ) → AreTyped (signal_shapes circuit) values → length values ≡ length circuit.signals
values-count circuit values typed = typed.count ∙ length-map circuit.signals (λ (signal : Signal). shape signal.ty)

shapes-count : (circuit : FlatCircuit) (s : ℕ) → s < length circuit.signals → s < length (signal_shapes circuit)
shapes-count circuit s known = omega (arith, known, length-map circuit.signals (λ (signal : Signal). shape signal.ty))

-- ---- listed signals

-- the first i of these signals are worked out
pub record IsWorking (circuit : FlatCircuit) (state : State) (signals first : List ℕ) (i : ℕ) (values : List ℕ) : Type 0 where
  pub typed : AreTyped (signal_shapes circuit) values
  pub inputs : inputs_in circuit values ≡ inputs_in circuit first
  pub right : (marks : List Bool) → StandBehind circuit marks signals → AreRight circuit state first (λ s. is_marked marks s ≡ true) → AreRight circuit state values (λ s. (is_marked marks s ≡ true) ⊎ Contains (take i signals) s)

pub IsWorking-step : (circuit : FlatCircuit) (state : State) (signals first : List ℕ) (i s : ℕ) (values : List ℕ) (value : ℕ) → IsWellFormed circuit → IsInOrder circuit → i < length signals → s ≡ value_at signals i → IsInner circuit s → value ≡ driver_value state [] values (shape_at (signal_shapes circuit) s) (driver_at circuit s) → Fits (shape_at (signal_shapes circuit) s) value → IsWorking circuit state signals first i values → IsWorking circuit state signals first (i + 1) (set values s value)
IsWorking-step circuit state signals first i s values value formed ordered within at inner is fits h =
    let more : take (i + 1) signals ≡ take i signals ++ s ∷ [] = take_more signals i 0 within ∙ ap (λ (x : ℕ). take i signals ++ x ∷ []) (sym at) in
    record {
      typed = AreTyped-set (signal_shapes circuit) values s value h.typed (shapes-count circuit s inner.known) fits;
      inputs = inputs-inner circuit values s value formed inner ∙ h.inputs;
      right = λ marks behind right. AreRight-more circuit state values s value
          (λ t. (is_marked marks t ≡ true) ⊎ Contains (take i signals) t) (λ t. (is_marked marks t ≡ true) ⊎ Contains (take (i + 1) signals) t)
          formed ordered inner (values-count circuit values h.typed)
          (λ t reads. behind i t within (subst (λ (x : ℕ). Reads circuit x t) at reads)) is
          (λ t e. elim e [
            | inl m ↦ inl (inl m)
            | inr has ↦ elim (Contains-append_cases (take i signals) (s ∷ []) t (subst (λ (l : List ℕ). Contains l t) more has)) [ inl old ↦ inl (inr old) | inr new ↦ inr (Contains-one s t new) ]
          ])
          (λ t e. elim e [ inl m ↦ inl m | inr old ↦ inr (subst (λ (l : List ℕ). Contains l t) (sym more) (Contains-append_left (take i signals) (s ∷ []) t old)) ])
          (h.right marks behind right);
    }

pub IsWorking-end : (circuit : FlatCircuit) (state : State) (signals first : List ℕ) (i : ℕ) (values : List ℕ) (marks : List Bool) → length signals ≤ i → StandBehind circuit marks signals → AreRight circuit state first (λ s. is_marked marks s ≡ true) → IsWorking circuit state signals first i values → AreRight circuit state values (λ s. (is_marked marks s ≡ true) ⊎ Contains signals s)
IsWorking-end circuit state signals first i values marks all behind right h =
    subst (λ (l : List ℕ). AreRight circuit state values (λ s. (is_marked marks s ≡ true) ⊎ Contains l s)) (take_all i signals all) (h.right marks behind right)

-- ---- all signals that aren't marked

-- if all in-signals are marked, a signal that isn't marked is no in-signal
pub IsInner-unmarked : (circuit : FlatCircuit) (marks : List Bool) (s : ℕ) → IsWellFormed circuit → ((place : ℕ) → place < length circuit.ins → is_marked marks (value_at circuit.ins place) ≡ true) → s < length circuit.signals → is_marked marks s ≡ false → IsInner circuit s
IsInner-unmarked circuit marks s formed inputs known not =
    record {
      known = known;
      inner = λ place is.
          let may : MayDrive circuit s (Input place) = subst (MayDrive circuit s) is (formed.drivers s known) in
          true≢false (sym (subst (λ (x : ℕ). is_marked marks x ≡ true) may.1 (inputs place may.0)) ∙ not);
    }

-- the marked signals and those below k are worked out
pub record IsSettling (circuit : FlatCircuit) (state : State) (marks : List Bool) (first : List ℕ) (k : ℕ) (values : List ℕ) : Type 0 where
  pub typed : AreTyped (signal_shapes circuit) values
  pub inputs : inputs_in circuit values ≡ inputs_in circuit first
  pub right : AreRight circuit state values (λ s. (is_marked marks s ≡ true) ⊎ (s < k))

pub IsSettling-skip : (circuit : FlatCircuit) (state : State) (marks : List Bool) (first : List ℕ) (k : ℕ) (values : List ℕ) → is_marked marks k ≡ true → IsSettling circuit state marks first k values → IsSettling circuit state marks first (k + 1) values
IsSettling-skip circuit state marks first k values is h =
    record {
      typed = h.typed;
      inputs = h.inputs;
      right = AreRight-same circuit state values (λ s. (is_marked marks s ≡ true) ⊎ (s < k)) (λ s. (is_marked marks s ≡ true) ⊎ (s < k + 1))
          (λ s e. elim e [ inl m ↦ inl m | inr lt ↦ inr (omega (arith, lt)) ])
          (λ s e. elim e [
            | inl m ↦ inl m
            | inr lt ↦ elim (cases_lt s k) [
              | inl less ↦ inr less
              | inr ge ↦ let same : s ≡ k = omega (arith, lt, ge) in inl (subst (λ (x : ℕ). is_marked marks x ≡ true) (sym same) is)
            ]
          ])
          h.right;
    }

pub IsSettling-step : (circuit : FlatCircuit) (state : State) (marks : List Bool) (first : List ℕ) (k : ℕ) (values : List ℕ) (value : ℕ) → IsWellFormed circuit → IsInOrder circuit → IsInner circuit k → value ≡ driver_value state [] values (shape_at (signal_shapes circuit) k) (driver_at circuit k) → Fits (shape_at (signal_shapes circuit) k) value → IsSettling circuit state marks first k values → IsSettling circuit state marks first (k + 1) (set values k value)
IsSettling-step circuit state marks first k values value formed ordered inner is fits h =
    record {
      typed = AreTyped-set (signal_shapes circuit) values k value h.typed (shapes-count circuit k inner.known) fits;
      inputs = inputs-inner circuit values k value formed inner ∙ h.inputs;
      right = AreRight-more circuit state values k value
          (λ t. (is_marked marks t ≡ true) ⊎ (t < k)) (λ t. (is_marked marks t ≡ true) ⊎ (t < k + 1))
          formed ordered inner (values-count circuit values h.typed)
          (λ t reads. inr (ordered k t reads)) is
          (λ t e. elim e [
            | inl m ↦ inl (inl m)
            | inr lt ↦ elim (cases_lt t k) [ inl less ↦ inl (inr less) | inr ge ↦ inr (let same : k ≡ t = omega (arith, lt, ge) in same) ]
          ])
          (λ t e. elim e [ inl m ↦ inl m | inr lt ↦ inr (omega (arith, lt)) ])
          h.right;
    }
