-- A run of the circuit with a model is a run of the circuit and a run of the model, which give each other what is seen and driven.
use Rattle.std.proofs.Common.{◌≡◌, ℕ, zero, suc, ◌+◌, ◌-◌, ◌^◌, ◌<◌, List, [], ◌∷◌, Bool, true, false, length, map, get_or, refl, sym, ◌∙◌, ap, ap₂, subst, arith}
use Rattle.std.specs.Prelude.{pos, negsuc, ◌-ℤ◌, ◌%◌, nat_lt, if◌then◌else◌}
use Rattle.std.specs.List.{range_with_len}
use Rattle.std.proofs.Math.Nat.{mod-eq_of_lt}
use Rattle.std.proofs.lemmas.Int.{ints}
use Rattle.std.proofs.lemmas.Nat.{pow_pos}
use Rattle.std.proofs.lemmas.List.{get_or-map, get_or_default, length-map}
use Rattle.std.proofs.lemmas.List.FromFn.{length-range_with_len}
use Rattle.std.proofs.lemmas.Grind.{same_number_lists}
use Rattle.gg_bits.specs.Shape.{shape, uint, Fits}
use Rattle.gg_bits.specs.Value.{number_of, pattern_of}
use Rattle.gg_bits.specs.declared.types.Kind.{Kind}
use Rattle.gg_bits.specs.declared.types.Kind.TheVariants.{UInt, SInt}
use Rattle.gg_bits.specs.declared.types.Ty.{Ty}
use Rattle.gg_flat.specs.declared.piece.Signal.{Signal}
use Rattle.gg_flat.specs.declared.piece.Driver.TheVariants.{Computed}
use Rattle.gg_flat_tree.specs.Clocked.{clocks_from}
use Rattle.gg_flat.specs.Line.{value_at, shape_at, connected_value, HasType}
use Rattle.gg_flat.specs.Circuit.{FlatCircuit, signal_shapes, driver_at}
use Rattle.gg_flat.specs.Clock.{Ratio, edges_at}
use Rattle.gg_flat.specs.State.{State, IsState, next_state}
use Rattle.gg_flat.specs.Settled.{Settled, driver_value}
use Rattle.gg_flat.specs.Run.{Start, IsRunFrom, state_at, row_at, inputs_at, column, later}
use Rattle.gg_flat.specs.WellFormed.{IsWellFormed}
use Rattle.gg_flat.proofs.ListLemmas.{some-item}
use Rattle.gg_part.specs.PartRun.{part_rows, part_ratios}
use Rattle.gg_part.proofs.RenameLemmas.{part_row-at}
use Rattle.gg_part.proofs.RunLemmas.{IsRunFrom-part}
use Rattle.gg_bridge.specs.Model.{IsModel}
use Rattle.gg_bridge.specs.inside.All.{HasInputs}
use Rattle.gg_bridge.specs.All.{joined_state}
use Rattle.gg_bridge.specs.Joined.{without, globals_behind, held_behind, memories_behind, copy_line, driver_behind, joined}
use Rattle.gg_bridge.specs.inside.Joined.{linked_driver, placed, CanJoin}
use Rattle.gg_bridge.proofs.ClockLemmas.{run-own, no-ratios}
use Rattle.gg_bridge.proofs.NumberLemmas.{place-is, behind, behind-first}
use Rattle.gg_bridge.proofs.AtLemmas.{long, shape-old, shape-new, driver-old, driver-new}
use Rattle.gg_bridge.proofs.PartLemmas.{front-part, model-part}
use Rattle.gg_bridge.proofs.FormedLemmas.{driven-typed, seen-typed}
use Rattle.gg_bridge.proofs.StateLemmas.{front-state, model-state, state-joined}

-- the pattern of the number that a pattern stands for is that pattern (now in gg_types and gg_cut_plan; it belongs into gg_bits)
pattern_of-number : (kind : Kind) (w p : ℕ) → p < 2 ^ w → pattern_of w (number_of kind w p) ≡ p
pattern_of-number UInt w p small = mod-eq_of_lt small
pattern_of-number SInt w p small = by (nat_lt p (2 ^ (w - 1)))
  where
    less : pos p -ℤ pos (2 ^ w) ≡ negsuc (2 ^ w - 1 - p)
    less = omega (arith, ints)

    back : pattern_of w (negsuc (2 ^ w - 1 - p)) ≡ p
    back = let same : (2 ^ w - 1 - p) % 2 ^ w ≡ 2 ^ w - 1 - p = mod-eq_of_lt (omega (arith, pow_pos w)) in rw same (omega arith)

    by : (t : Bool) → pattern_of w (if t then pos p else (pos p -ℤ pos (2 ^ w))) ≡ p
    by true = mod-eq_of_lt small
    by false = ap (pattern_of w) less ∙ back

pub copy-value : (row : List ℕ) (ty : Ty) (t : ℕ) → Fits (shape ty) (value_at row t) → connected_value row (shape ty) (copy_line ty t) ≡ value_at row t
copy-value row ty t fits = pattern_of-number ty.kind ty.width (value_at row t) fits

-- a copy has the value of what it copies
pub copied : (circuit : FlatCircuit) (state : State) (inputs row : List ℕ) (s t : ℕ) (ty : Ty) → Settled circuit state inputs row → s < length circuit.signals → driver_at circuit s ≡ Computed (copy_line ty t) → shape ty ≡ shape_at (signal_shapes circuit) s → HasType (signal_shapes circuit) t (shape ty) → value_at row s ≡ value_at row t
copied circuit state inputs row s t ty settled lt is same typed =
    settled.driven s lt
    ∙ ap (driver_value state inputs row (shape_at (signal_shapes circuit) s)) is
    ∙ ap (λ sink. connected_value row sink (copy_line ty t)) (sym same)
    ∙ copy-value row ty t (subst (λ sh. Fits sh (value_at row t)) typed.1 (settled.typed.fits t typed.0))

-- a run doesn't depend on paths
module _ (front : List ℕ) (model : FlatCircuit) where
  state-placed : (start : Start) (rows : List (List ℕ)) (t : ℕ) → state_at (placed front model) start rows t ≡ state_at model start rows t
  state-placed start rows zero = refl
  state-placed start rows (suc t) = ap (λ state. next_state (edges_at start.ratios (later start.cycle t)) model state (row_at rows t)) (state-placed start rows t)

  run-placed : (start : Start) (columns : List (List ℕ)) (n : ℕ) (rows : List (List ℕ)) → IsRunFrom (placed front model) start columns n rows → IsRunFrom model start columns n rows
  run-placed start columns n rows run =
      record {
        count = run.count;
        settled = λ t lt.
            let s = subst (λ state. Settled (placed front model) state (inputs_at columns (later start.cycle t)) (row_at rows t)) (state-placed start rows t) (run.settled t lt) in
            record { typed = s.typed; driven = s.driven };
      }

-- the start of the circuit with the model
abbrev pub both_start : Start → State → Start
both_start start begin = record { cycle = start.cycle; state = joined_state start.state begin; ratios = start.ratios }

-- the start of the model
abbrev pub model_begin : Start → State → Start
model_begin start begin = record { cycle = start.cycle; state = begin; ratios = [] }

module _ (one : FlatCircuit) (front : List ℕ) (model : FlatCircuit) (sees drives : List ℕ) (can : CanJoin one front model sees drives) (formed : IsWellFormed one) (is_model : IsModel model) (start : Start) (begin : State) (first : IsState one start.state) (second : IsState model begin) (columns : List (List ℕ)) (n : ℕ) (rows : List (List ℕ)) (run : IsRunFrom (joined one front model sees drives) (both_start start begin) columns n rows) where
  abbrev all : FlatCircuit
  all = joined one front model sees drives

  -- columns that agree in each cycle
  same-column : (s t : ℕ) → ((k : ℕ) → k < n → value_at (row_at rows k) s ≡ value_at (row_at rows k) t) → column rows s ≡ column rows t
  same-column s t same =
      let count : length (column rows s) ≡ n = length-map rows (λ row. value_at row s) ∙ run.count in
      same_number_lists (column rows s) (column rows t) (count ∙ sym (length-map rows (λ row. value_at row t) ∙ run.count)) (λ k lt.
      let inside : k < n = omega (arith, lt, count) in
      get_or-map (λ row. value_at row s) rows k [] 0 (omega (arith, inside, run.count))
      ∙ same k inside
      ∙ sym (get_or-map (λ row. value_at row t) rows k [] 0 (omega (arith, inside, run.count))))

  type-of : (circuit : FlatCircuit) (s : ℕ) (any : Signal) → s < length circuit.signals → shape (get_or circuit.signals s any).ty ≡ shape_at (signal_shapes circuit) s
  type-of circuit s any lt = sym (get_or-map (λ (signal : Signal). shape signal.ty) circuit.signals s any (uint 0) lt)

  -- ---- what is seen and driven

  seen : (place k : ℕ) → place < length model.ins → k < n → value_at (row_at rows k) (value_at (globals_behind one model) (value_at model.ins place)) ≡ value_at (row_at rows k) (value_at sees place)
  seen place k lt inside =
      let i = value_at model.ins place in
      let at = is_model.formed.ins place lt in
      let low = at.0 in
      let any = some-item model.signals i low in
      let ty = (get_or model.signals i any).ty in
      let to : value_at (globals_behind one model) i ≡ length one.signals + i = behind (length one.signals) (length model.signals) i low in
      let known : length one.signals + i < length all.signals = omega (arith, low, long one front model sees drives) in
      ap (value_at (row_at rows k)) to
      ∙ copied all (state_at all (both_start start begin) rows k) (inputs_at columns (later start.cycle k)) (row_at rows k) (length one.signals + i) (value_at sees place) ty (run.settled k inside) known
      (driver-new one front model sees drives i any low ∙ ap (driver_behind (globals_behind one model) (held_behind one model) (memories_behind one model) sees ty) at.1)
      (type-of model i any low ∙ sym (shape-new one front model sees drives i low))
      (seen-typed one front model sees drives can formed is_model.formed is_model.clocks i place any low lt refl)

  pub driven : (i : ℕ) → i < length drives → column rows (value_at drives i) ≡ column (part_rows (globals_behind one model) rows) (value_at model.outs i)
  driven i lt =
      let s = value_at drives i in
      let h = can.driven i lt in
      let input = formed.ins h.0 h.1 in
      let is : value_at one.ins h.0 ≡ s = get_or_default one.ins h.0 0 s h.1 ∙ h.2 in
      let low : s < length one.signals = (let k = input.0 in omega (arith, k, is)) in
      let any = some-item one.signals s low in
      let ty = (get_or one.signals s any).ty in
      let outs = map (value_at (globals_behind one model)) model.outs in
      let inside : i < length model.outs = omega (arith, lt, can.driven_count) in
      let out = value_at model.outs i in
      let known = is_model.formed.outs i inside in
      same-column s (value_at outs i) (λ k fits.
      copied all (state_at all (both_start start begin) rows k) (inputs_at columns (later start.cycle k)) (row_at rows k) s (value_at outs i) ty (run.settled k fits) (omega (arith, low, long one front model sees drives))
      (driver-old one front model sees drives s any low ∙ ap (linked_driver outs (without drives one.ins) s ty (driver_at one s)) (place-is drives i can.once lt))
      (type-of one s any low ∙ sym (shape-old one front model sees drives s low))
      (driven-typed one front model sees drives can formed is_model.formed is_model.clocks s i any low lt refl))
      ∙ ap (column rows) (get_or-map (value_at (globals_behind one model)) model.outs i 0 0 inside)
      ∙ sym (part-column out known)
    where
      part-column : (out : ℕ) → out < length model.signals → column (part_rows (globals_behind one model) rows) out ≡ column rows (value_at (globals_behind one model) out)
      part-column out known =
          let fits : out < length (globals_behind one model) = omega (arith, known, length-range_with_len (length one.signals) (length model.signals)) in
          each rows fits
        where
          each : (list : List (List ℕ)) → out < length (globals_behind one model) → column (part_rows (globals_behind one model) list) out ≡ column list (value_at (globals_behind one model) out)
          each [] fits = refl
          each (row ∷ list) fits = ap₂ (λ (v : ℕ) (l : List ℕ). v ∷ l) (part_row-at (globals_behind one model) row out fits) (each list fits)

  -- ---- the runs

  pub front-run : (inputs : List (List ℕ)) → HasInputs rows inputs start.cycle n one.ins → IsRunFrom one start inputs n (part_rows (range_with_len 0 (length one.signals)) rows)
  front-run inputs given =
      let from : State → Start = λ state. record { cycle = start.cycle; state = state; ratios = part_ratios (clocks_from 0 one.clocks) start.ratios } in
      run-own one formed start inputs n (part_rows (range_with_len 0 (length one.signals)) rows)
      (subst (λ state. IsRunFrom one (from state) inputs n (part_rows (range_with_len 0 (length one.signals)) rows)) (front-state one front model sees drives start.state begin first second)
      (IsRunFrom-part all one (range_with_len 0 (length one.signals)) (range_with_len 0 (length one.registers)) (range_with_len 0 (length one.memories)) (clocks_from 0 one.clocks) (front-part one front model sees drives can formed) (both_start start begin) columns inputs n rows (state-joined one front model sees drives start.state begin first second) run
      (λ t place lt known. given t place lt known ∙ ap (value_at (row_at rows t)) (sym (behind-first (length one.signals) (value_at one.ins place) (formed.ins place known).0)))))

  pub model-run : (inputs : List (List ℕ)) → HasInputs rows inputs start.cycle n sees → IsRunFrom model (model_begin start begin) inputs n (part_rows (globals_behind one model) rows)
  model-run inputs given =
      let from : State → List Ratio → Start = λ state ratios. record { cycle = start.cycle; state = state; ratios = ratios } in
      let base =
      IsRunFrom-part all (placed front model) (globals_behind one model) (held_behind one model) (memories_behind one model) [] (model-part one front model sees drives formed.named is_model.formed is_model.clocks) (both_start start begin) columns inputs n rows (state-joined one front model sees drives start.state begin first second) run
      (λ t place lt known. given t place lt (omega (arith, known, can.seen_count)) ∙ sym (seen place t known lt)) in
      run-placed front model (model_begin start begin) inputs n (part_rows (globals_behind one model) rows)
      (subst (λ ratios. IsRunFrom (placed front model) (from begin ratios) inputs n (part_rows (globals_behind one model) rows)) (no-ratios start.ratios)
      (subst (λ state. IsRunFrom (placed front model) (from state (part_ratios [] start.ratios)) inputs n (part_rows (globals_behind one model) rows)) (model-state one front model sees drives start.state begin first second) base))
