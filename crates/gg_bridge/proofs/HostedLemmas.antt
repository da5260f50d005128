-- A bridge as a machine: what it says is its tokens, and its answer is its next state.
use Rattle.std.proofs.Common.{◌≡◌, ◌≢◌, ℕ, zero, suc, ◌+◌, ◌<◌, List, [], ◌∷◌, Option, Some, None, Bool, true, false, true≢false, nat_eq, length, map, replicate, refl, sym, ◌∙◌, ap, ap₂, subst, arith}
use Rattle.std.specs.Prelude.{slice_set}
use Rattle.std.proofs.lemmas.Bool.Decides.{Decides-eqb}
use Rattle.std.proofs.lemmas.List.{get_or-map, get_or-set_same, get_or-set_other, length-map}
use Rattle.std.proofs.lemmas.List.FromFn.{get_or-map-range_with_len, length-map-range_with_len}
use Rattle.std.proofs.lemmas.Grind.{same_number_lists}
use Rattle.std.proofs.lemmas.Option.{none-some}
use Rattle.std.proofs.lemmas.Nat.{pow_pos}
use Rattle.gg_bits.specs.Shape.{Shape, shape, uint, Fits}
use Rattle.gg_flat.specs.declared.piece.Signal.{Signal}
use Rattle.gg_flat.specs.declared.piece.Driver.{Driver}
use Rattle.gg_flat.specs.declared.piece.Driver.TheVariants.{Input, Held, MemoryWord, ReadRegister, Computed}
use Rattle.gg_flat.specs.Line.{value_at, shape_at, AreTyped}
use Rattle.gg_flat.specs.Circuit.{FlatCircuit, signal_shapes, driver_at}
use Rattle.gg_flat.specs.State.{State}
use Rattle.gg_flat.specs.Settled.{Settled, IsInputs, in_shapes, driver_value}
use Rattle.gg_flat.specs.WellFormed.{IsWellFormed, MayDrive}
use Rattle.gg_flat.proofs.ListLemmas.{some-item}
use Rattle.gg_node.specs.Machine.{latch_at, latched_value, latched_values, needs_at}
use Rattle.gg_node.proofs.EmptyLemmas.{empty-after}
use Rattle.gg_bridge.specs.Turned.{place_in, turned_driver, turned_signal, turned}
use Rattle.gg_bridge.specs.inside.Turned.{turned_back, AreAllPlaces}
use Rattle.gg_bridge.specs.inside.Model.{IsSaid}
use Rattle.gg_bridge.proofs.NumberLemmas.{place-of}

module _ (model : FlatCircuit) (ins outs : List ℕ) where
  abbrev machine : FlatCircuit
  machine = turned model ins outs

  -- ---- signals

  same-shapes : (signals : List Signal) → map (λ (signal : Signal). shape signal.ty) (map (turned_signal ins) signals) ≡ map (λ (signal : Signal). shape signal.ty) signals
  same-shapes [] = refl
  same-shapes (signal ∷ signals) = ap (λ (l : List Shape). shape signal.ty ∷ l) (same-shapes signals)

  pub shapes : signal_shapes (turned model ins outs) ≡ signal_shapes model
  shapes = same-shapes model.signals

  pub driver-turned : (s : ℕ) → s < length model.signals → driver_at (turned model ins outs) s ≡ turned_driver ins (driver_at model s)
  driver-turned s lt =
      let any = some-item model.signals s lt in
      get_or-map (λ (signal : Signal). signal.driver) (map (turned_signal ins) model.signals) s (turned_signal ins any) (Input 0) (omega (arith, lt, length-map model.signals (turned_signal ins)))
      ∙ ap (λ (signal : Signal). signal.driver) (get_or-map (turned_signal ins) model.signals s any (turned_signal ins any) lt)
      ∙ ap (turned_driver ins) (sym (get_or-map (λ (signal : Signal). signal.driver) model.signals s any (Input 0) lt))

  module _ (formed : IsWellFormed model) (all : AreAllPlaces (length model.ins) ins) where
    back-at : (inputs : List ℕ) (place : ℕ) → place < length ins → value_at (turned_back ins inputs) place ≡ value_at inputs (place_in ins place)
    back-at inputs place lt = get_or-map-range_with_len (λ p. value_at inputs (place_in ins p)) 0 (length ins) place place 0 lt (let z : 0 + place ≡ place = omega arith in z)

    value-turned : (state : State) (inputs row : List ℕ) (sink : Shape) (s : ℕ) (driver : Driver) → MayDrive model s driver → driver_value state inputs row sink (turned_driver ins driver) ≡ driver_value state (turned_back ins inputs) row sink driver
    value-turned state inputs row sink s (Input place) may = sym (back-at inputs place (let low = may.0 in omega (arith, low, all.total)))
    value-turned state inputs row sink s (Held register) may = refl
    value-turned state inputs row sink s (MemoryWord memory reader addr en) may = refl
    value-turned state inputs row sink s (ReadRegister memory reader) may = refl
    value-turned state inputs row sink s (Computed line) may = refl

    -- a settled row of the machine's piece is one of the model
    pub turned-settled : (state : State) (inputs row : List ℕ) → Settled (turned model ins outs) state inputs row → Settled model state (turned_back ins inputs) row
    turned-settled state inputs row settled =
        record {
          typed = subst (λ (l : List Shape). AreTyped l row) shapes settled.typed;
          driven = λ s lt.
              settled.driven s (omega (arith, lt, length-map model.signals (turned_signal ins)))
              ∙ ap₂ (λ (l : List Shape) d. driver_value state inputs row (shape_at l s) d) shapes (driver-turned s lt)
              ∙ value-turned state inputs row (shape_at (signal_shapes model) s) s (driver_at model s) (formed.drivers s lt);
        }

  -- ---- tokens

  outs-at : (o : ℕ) → o < length outs → value_at (turned model ins outs).outs o ≡ value_at model.outs (value_at outs o)
  outs-at o lt = get_or-map (value_at model.outs) outs o 0 0 lt

  -- what is said is the token of each out
  pub said-token : (formed : IsWellFormed model) (all : AreAllPlaces (length model.ins) ins) (state : State) (said : List ℕ) (o : ℕ) → IsSaid model state said → o < length outs → value_at outs o < length model.outs
      → (inputs row : List ℕ) → Settled (turned model ins outs) state inputs row → value_at row (value_at (turned model ins outs).outs o) ≡ value_at said (value_at outs o)
  said-token formed all state said o is lt known inputs row settled =
      ap (value_at row) (outs-at o lt)
      ∙ sym (get_or-map (value_at row) model.outs (value_at outs o) 0 0 known)
      ∙ ap (λ l. value_at l (value_at outs o)) (is.each (turned_back ins inputs) row (turned-settled formed all state inputs row settled))

  -- ---- what is seen

  -- the tokens are put to the places of their ins
  pub record IsGathered (latches : List (Option ℕ)) (seen : List ℕ) : Type 0 where
    pub count : length seen ≡ length model.ins
    pub put : (i : ℕ) → i < length ins → value_at seen (value_at ins i) ≡ latched_value (latch_at latches i)

  pub gathered-by : (places : List ℕ) (tokens latches : List (Option ℕ)) (put seen : List ℕ) → places ≡ ins → tokens ≡ latches → seen ≡ put → length put ≡ length model.ins
      → ((i : ℕ) → i < length places → value_at put (value_at places i) ≡ latched_value (latch_at tokens i)) → IsGathered latches seen
  gathered-by places tokens latches put seen a b c count each =
      record {
        count = ap length c ∙ count;
        put = λ i lt.
            ap₂ (λ (l p : List ℕ). value_at l (value_at p i)) c (sym a)
            ∙ each i (subst (λ (p : List ℕ). i < length p) (sym a) lt)
            ∙ ap (λ (l : List (Option ℕ)). latched_value (latch_at l i)) b;
      }

  module _ (all : AreAllPlaces (length model.ins) ins) (latches : List (Option ℕ)) (seen : List ℕ) (count : length latches ≡ length ins) (gathered : IsGathered latches seen) where
    seen-at : (place : ℕ) → place < length model.ins → value_at seen place ≡ latched_value (latch_at latches (place_in ins place))
    seen-at place lt =
        let at = place-of ins place (all.every place lt) in
        ap (value_at seen) (sym at.is) ∙ gathered.put (place_in ins place) at.known

    pub seen-is : seen ≡ turned_back ins (latched_values latches)
    seen-is =
        same_number_lists seen (turned_back ins (latched_values latches)) (gathered.count ∙ sym all.total ∙ sym (length-map-range_with_len (λ p. value_at (latched_values latches) (place_in ins p)) 0 (length ins))) (λ place lt.
        let low : place < length model.ins = omega (arith, lt, gathered.count) in
        let at = place-of ins place (all.every place low) in
        let known = at.known in
        seen-at place low
        ∙ sym (get_or-map latched_value latches (place_in ins place) None 0 (omega (arith, known, count)))
        ∙ sym (get_or-map-range_with_len (λ p. value_at (latched_values latches) (place_in ins p)) 0 (length ins) place place 0 (omega (arith, low, all.total)) (let z : 0 + place ≡ place = omega arith in z)))

    fits-latched : (i : ℕ) (sh : Shape) (latch : Option ℕ) → latch_at latches i ≡ latch → ((value : ℕ) → latch_at latches i ≡ Some value → Fits sh value) → Fits sh (latched_value latch)
    fits-latched i sh None e fit = pow_pos sh.width
    fits-latched i sh (Some value) e fit = fit value e

    pub seen-typed : ((i value : ℕ) → latch_at latches i ≡ Some value → Fits (shape_at (in_shapes (turned model ins outs)) i) value) → IsInputs model seen
    seen-typed fit =
        record {
          count = gathered.count ∙ sym (length-map model.ins (shape_at (signal_shapes model)));
          fits = λ place lt.
              let low : place < length model.ins = omega (arith, lt, length-map model.ins (shape_at (signal_shapes model))) in
              let at = place-of ins place (all.every place low) in
              let j = place_in ins place in
              let inside = at.known in
              let shape-in : shape_at (in_shapes (turned model ins outs)) j ≡ shape_at (in_shapes model) place =
              get_or-map (shape_at (signal_shapes (turned model ins outs))) (map (value_at model.ins) ins) j 0 (uint 0) (omega (arith, inside, length-map ins (value_at model.ins)))
              ∙ ap₂ (λ (l : List Shape) s. shape_at l s) shapes (get_or-map (value_at model.ins) ins j 0 0 inside ∙ ap (value_at model.ins) at.is)
              ∙ sym (get_or-map (shape_at (signal_shapes model)) model.ins place 0 (uint 0) low) in
              subst (Fits (shape_at (in_shapes model) place)) (sym (seen-at place low))
              (subst (λ sh. Fits sh (latched_value (latch_at latches j))) shape-in (fits-latched j (shape_at (in_shapes (turned model ins outs)) j) (latch_at latches j) refl (fit j)));
        }

  -- ---- latches

  pub fit-empty : (n i value : ℕ) → latch_at (replicate n None) i ≡ Some value → Fits (shape_at (in_shapes (turned model ins outs)) i) value
  fit-empty n i value is = absurd (none-some value (sym (empty-after n i) ∙ is))

  pub fit-latched : (latches : List (Option ℕ)) (place token : ℕ) → place < length latches → Fits (shape_at (in_shapes (turned model ins outs)) place) token
      → ((i value : ℕ) → latch_at latches i ≡ Some value → Fits (shape_at (in_shapes (turned model ins outs)) i) value)
      → (i value : ℕ) → latch_at (slice_set latches place (Some token)) i ≡ Some value → Fits (shape_at (in_shapes (turned model ins outs)) i) value
  fit-latched latches place token below fits fit i value has = by (nat_eq i place) refl
    where
      same-token : Some token ≡ Some value → token ≡ value
      same-token e = cc

      by : (b : Bool) → nat_eq i place ≡ b → Fits (shape_at (in_shapes (turned model ins outs)) i) value
      by true e =
          let at : i ≡ place = (Decides-eqb i place).0 e in
          let here : latch_at (slice_set latches place (Some token)) place ≡ Some value = ap (latch_at (slice_set latches place (Some token))) (sym at) ∙ has in
          let is_token : token ≡ value = same-token (sym (get_or-set_same latches place (Some token) None below) ∙ here) in
          subst (λ (k : ℕ). Fits (shape_at (in_shapes (turned model ins outs)) k) value) (sym at) (subst (Fits (shape_at (in_shapes (turned model ins outs)) place)) is_token fits)
      by false e =
          let other : i ≢ place = λ same. true≢false (sym ((Decides-eqb i place).1 same) ∙ e) in
          fit i value (sym (get_or-set_other latches place i (Some token) None other) ∙ has)

-- no out needs an in
pub needs-none : (n o : ℕ) → needs_at (replicate n []) o ≡ []
needs-none zero o = refl
needs-none (suc n) zero = refl
needs-none (suc n) (suc o) = needs-none n o
