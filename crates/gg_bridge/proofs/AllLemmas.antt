-- Several bridges, one after the other.
use Rattle.std.proofs.Common.{◌≡◌, ℕ, zero, suc, ◌+◌, ◌<◌, ◌≤◌, List, [], ◌∷◌, ◌++◌, length, map, replicate, refl, sym, ◌∙◌, ap, ap₂, subst, arith}
use Rattle.std.specs.Prelude.{All}
use Rattle.std.specs.List.{range_with_len}
use Rattle.std.proofs.lemmas.List.{get_or-map, get_or_default, get_or-append-add, length-map, length-replicate}
use Rattle.std.proofs.lemmas.List.FromFn.{length-range_with_len}
use Rattle.gg_flat.specs.Line.{value_at}
use Rattle.gg_flat.specs.Circuit.{FlatCircuit}
use Rattle.gg_flat.specs.Order.{IsOrder}
use Rattle.gg_flat.specs.WellFormed.{IsWellFormed}
use Rattle.gg_flat.specs.declared.piece.Driver.{Driver}
use Rattle.gg_flat.specs.declared.piece.Driver.TheVariants.{Input, Held, MemoryWord, ReadRegister, Computed}
use Rattle.gg_flat.specs.declared.piece.Signal.{Signal}
use Rattle.gg_flat.specs.Line.{shape_at}
use Rattle.gg_flat.specs.Circuit.{signal_shapes, driver_at}
use Rattle.gg_flat.specs.Settled.{driver_value}
use Rattle.gg_flat.specs.WellFormed.{MayDrive}
use Rattle.gg_flat.specs.Run.{Start, IsRunFrom, column, later, state_at, row_at, inputs_at}
use Rattle.gg_flat.specs.State.{IsState, opening}
use Rattle.gg_flat.proofs.StateLemmas.{IsState-opening}
use Rattle.gg_bits.specs.Shape.{Shape, shape}
use Rattle.std.proofs.lemmas.Grind.{same_number_lists}
use Rattle.gg_part.specs.PartRun.{part_row, part_rows}
use Rattle.gg_bridge.specs.Joined.{globals_behind}
use Rattle.gg_bridge.specs.inside.Joined.{HasOrder}
use Rattle.gg_bridge.specs.inside.All.{Attached, with_bridge, joined_all, joined_states, CanAttach, CanAttachAll, HasInputs, RunsModelFrom, RunsAllFrom}
use Rattle.gg_bridge.proofs.NumberLemmas.{behind, behind-first}
use Rattle.gg_bridge.proofs.AtLemmas.{long}
use Rattle.gg_bridge.proofs.FormedLemmas.{whole-formed}
use Rattle.gg_bridge.proofs.OrderedLemmas.{joined_order, whole-ordered}
use Rattle.gg_bridge.proofs.RunLemmas.{both_start, model_begin, front-run, model-run, driven}
use Rattle.gg_bridge.proofs.StateLemmas.{state-joined}

-- ---- well formed, in order

pub bridge-formed : (one : FlatCircuit) (bridge : Attached) → CanAttach one bridge → IsWellFormed one → IsWellFormed (with_bridge one bridge)
bridge-formed one bridge can formed = whole-formed one bridge.front bridge.model bridge.sees bridge.drives can.can formed can.model.formed can.model.clocks

pub all-formed : (one : FlatCircuit) (bridges : List Attached) → CanAttachAll one bridges → IsWellFormed one → IsWellFormed (joined_all one bridges)
all-formed one [] can formed = formed
all-formed one (bridge ∷ bridges) can formed = all-formed (with_bridge one bridge) bridges can.1 (bridge-formed one bridge can.0 formed)

pub all-ordered : (one : FlatCircuit) (bridges : List Attached) (order : List ℕ) → CanAttachAll one bridges → IsWellFormed one → IsOrder one order → HasOrder (joined_all one bridges)
all-ordered one [] order can formed ordered = record { order = order; is = ordered }
all-ordered one (bridge ∷ bridges) order can formed ordered =
    all-ordered (with_bridge one bridge) bridges (joined_order one bridge.front bridge.model bridge.sees bridge.drives order can.0.can formed ordered can.0.model) can.1 (bridge-formed one bridge can.0 formed)
    (whole-ordered one bridge.front bridge.model bridge.sees bridge.drives order can.0.can formed ordered can.0.model)

-- ---- parts of parts

-- the first n values of a row, at place s
front-at : (row : List ℕ) (n s : ℕ) → s < n → value_at (part_row (range_with_len 0 n) row) s ≡ value_at row s
front-at row n s lt =
    get_or-map (value_at row) (range_with_len 0 n) s 0 0 (omega (arith, lt, length-range_with_len 0 n)) ∙ ap (value_at row) (behind-first n s lt)

row-again : (row : List ℕ) (n : ℕ) (globals : List ℕ) → All (λ s. s < n) globals → part_row globals (part_row (range_with_len 0 n) row) ≡ part_row globals row
row-again row n [] low = refl
row-again row n (s ∷ globals) low = ap₂ (λ v vs. v ∷ vs) (front-at row n s (low 0 s (omega arith))) (row-again row n globals (λ i d lt. low (suc i) d (omega (arith, lt))))

rows-again : (rows : List (List ℕ)) (n : ℕ) (globals : List ℕ) → All (λ s. s < n) globals → part_rows globals (part_rows (range_with_len 0 n) rows) ≡ part_rows globals rows
rows-again [] n globals low = refl
rows-again (row ∷ rows) n globals low = ap₂ (λ v vs. v ∷ vs) (row-again row n globals low) (rows-again rows n globals low)

column-again : (rows : List (List ℕ)) (n s : ℕ) → s < n → column (part_rows (range_with_len 0 n) rows) s ≡ column rows s
column-again [] n s lt = refl
column-again (row ∷ rows) n s lt = ap₂ (λ v vs. v ∷ vs) (front-at row n s lt) (column-again rows n s lt)

-- row t of a part
row-part : (n : ℕ) (rows : List (List ℕ)) (t : ℕ) → t < length rows → row_at (part_rows (range_with_len 0 n) rows) t ≡ part_row (range_with_len 0 n) (row_at rows t)
row-part n rows t lt = get_or-map (part_row (range_with_len 0 n)) rows t [] [] lt

-- ---- inputs

-- columns with zeros before a cycle, and the values of these signals from there on
abbrev late_columns : ℕ → List (List ℕ) → List ℕ → List (List ℕ)
late_columns cycle rows signals = map (λ s. replicate cycle 0 ++ column rows s) signals

later-add : (c t : ℕ) → later c t ≡ c + t
later-add zero t = omega arith
later-add (suc c) t = omega (arith, later-add c t)

late-inputs : (cycle n : ℕ) (rows : List (List ℕ)) (signals : List ℕ) → length rows ≡ n → HasInputs rows (late_columns cycle rows signals) cycle n signals
late-inputs cycle n rows signals count = λ t place lt known.
    let zeros : List ℕ = replicate cycle 0 in
    let s = value_at signals place in
    let at : later cycle t ≡ length zeros + t = later-add cycle t ∙ ap (λ k. k + t) (sym (length-replicate cycle 0)) in
    get_or-map (λ (c : List ℕ). value_at c (later cycle t)) (late_columns cycle rows signals) place [] 0 (omega (arith, known, length-map signals (λ s. replicate cycle 0 ++ column rows s)))
    ∙ ap (λ (c : List ℕ). value_at c (later cycle t)) (get_or-map (λ s. replicate cycle 0 ++ column rows s) signals place 0 [] known)
    ∙ ap (value_at (zeros ++ column rows s)) at
    ∙ get_or-append-add zeros (column rows s) t 0
    ∙ get_or-map (λ (row : List ℕ). value_at row s) rows t [] 0 (omega (arith, lt, count))

-- ---- runs

range-low : (a k n : ℕ) → a + k ≤ n → All (λ s. s < n) (range_with_len a k)
range-low a k n few = λ i d lt.
    let inside : i < k = omega (arith, lt, length-range_with_len a k) in
    let same = get_or_default (range_with_len a k) i d 0 lt in
    let is = behind a k i inside in
    omega (arith, same, is, inside, few)

module _ (start : Start) (n : ℕ) (one : FlatCircuit) (bridge : Attached) (can : CanAttach one bridge) (formed : IsWellFormed one) (first : IsState one start.state) (columns : List (List ℕ)) (rows : List (List ℕ)) where
  abbrev both : FlatCircuit
  both = with_bridge one bridge

  abbrev own : List (List ℕ)
  own = part_rows (range_with_len 0 (length both.signals)) rows

  many : length both.signals ≡ length one.signals + length bridge.model.signals
  many = long one bridge.front bridge.model bridge.sees bridge.drives

  ins-low : All (λ s. s < length both.signals) one.ins
  ins-low i d lt = let same = get_or_default one.ins i d 0 lt in let known = (formed.ins i lt).0 in omega (arith, same, known, many)

  sees-low : All (λ s. s < length both.signals) bridge.sees
  sees-low i d lt = let same = get_or_default bridge.sees i d 0 lt in let known = can.can.seen i lt in omega (arith, same, known, many)

  drive-low : (i : ℕ) → i < length bridge.drives → value_at bridge.drives i < length both.signals
  drive-low i lt =
      let there = can.can.driven i lt in
      let known = (formed.ins there.0 there.1).0 in
      let same = get_or_default one.ins there.0 0 (value_at bridge.drives i) there.1 in
      let is = there.2 in
      omega (arith, known, same, is, many)

  abbrev globals : List ℕ
  globals = globals_behind one bridge.model

  globals-low : All (λ s. s < length both.signals) globals
  globals-low = range-low (length one.signals) (length bridge.model.signals) (length both.signals) (omega (arith, many))

  front-low : All (λ s. s < length both.signals) (range_with_len 0 (length one.signals))
  front-low = range-low 0 (length one.signals) (length both.signals) (omega (arith, many))

  -- the values that signals have are those that they have among the signals of the circuit with the bridge
  own-inputs : (inputs : List (List ℕ)) (signals : List ℕ) → All (λ s. s < length both.signals) signals → length rows ≡ n → HasInputs rows inputs start.cycle n signals → HasInputs (part_rows (range_with_len 0 (length both.signals)) rows) inputs start.cycle n signals
  own-inputs inputs signals low count given = λ t place lt known.
      given t place lt known
      ∙ sym (ap (λ row. value_at row (value_at signals place)) (row-part (length both.signals) rows t (omega (arith, lt, count)))
      ∙ front-at (row_at rows t) (length both.signals) (value_at signals place) (low place 0 known))

  module _ (run : IsRunFrom both (both_start start (opening bridge.model)) columns n own) where
    zeros : IsState bridge.model (opening bridge.model)
    zeros = IsState-opening bridge.model

    count : length rows ≡ n
    count = sym (length-map rows (part_row (range_with_len 0 (length both.signals)))) ∙ run.count

    pub circuit-again : (inputs : List (List ℕ)) → HasInputs rows inputs start.cycle n one.ins → IsRunFrom one start inputs n (part_rows (range_with_len 0 (length one.signals)) rows)
    circuit-again inputs given =
        subst (IsRunFrom one start inputs n) (rows-again rows (length both.signals) (range_with_len 0 (length one.signals)) front-low)
        (front-run one bridge.front bridge.model bridge.sees bridge.drives can.can formed can.model start (opening bridge.model) first zeros columns n own run inputs (own-inputs inputs one.ins ins-low count given))

    pub bridge-again : RunsModelFrom start.cycle n rows globals bridge
    bridge-again =
        record {
          run = λ inputs given.
              subst (IsRunFrom bridge.model (model_begin start (opening bridge.model)) inputs n) (rows-again rows (length both.signals) globals globals-low)
              (model-run one bridge.front bridge.model bridge.sees bridge.drives can.can formed can.model start (opening bridge.model) first zeros columns n own run inputs (own-inputs inputs bridge.sees sees-low count given));
          driven = λ i lt.
              sym (column-again rows (length both.signals) (value_at bridge.drives i) (drive-low i lt))
              ∙ driven one bridge.front bridge.model bridge.sees bridge.drives can.can formed can.model start (opening bridge.model) first zeros columns n own run i lt
              ∙ ap (λ (rs : List (List ℕ)). column rs (value_at bridge.model.outs i)) (rows-again rows (length both.signals) globals globals-low);
        }

-- ---- no bridge

-- the values of all signals in a row that has no more
row-whole : (row : List ℕ) (n : ℕ) → length row ≡ n → part_row (range_with_len 0 n) row ≡ row
row-whole row n many =
    let count : length (part_row (range_with_len 0 n) row) ≡ n = length-map (range_with_len 0 n) (value_at row) ∙ length-range_with_len 0 n in
    same_number_lists (part_row (range_with_len 0 n) row) row (count ∙ sym many) (λ k lt. front-at row n k (omega (arith, lt, count)))

rows-whole : (rows : List (List ℕ)) (n : ℕ) → All (λ row. length row ≡ n) rows → part_rows (range_with_len 0 n) rows ≡ rows
rows-whole [] n many = refl
rows-whole (row ∷ rows) n many = ap₂ (λ r rs. r ∷ rs) (row-whole row n (many 0 row (omega arith))) (rows-whole rows n (λ i d lt. many (suc i) d (omega (arith, lt))))

module _ (start : Start) (n : ℕ) (one : FlatCircuit) (formed : IsWellFormed one) (columns rows : List (List ℕ)) (run : IsRunFrom one start columns n rows) (inputs : List (List ℕ)) (given : HasInputs rows inputs start.cycle n one.ins) where
  by-driver : (t s : ℕ) → t < n → (sink : Shape) (d : Driver) → MayDrive one s d → value_at (row_at rows t) s ≡ driver_value (state_at one start rows t) (inputs_at columns (later start.cycle t)) (row_at rows t) sink d
      → value_at (row_at rows t) s ≡ driver_value (state_at one start rows t) (inputs_at inputs (later start.cycle t)) (row_at rows t) sink d
  by-driver t s lt sink (Input place) may is = sym (given t place lt may.0 ∙ ap (value_at (row_at rows t)) may.1)
  by-driver t s lt sink (Held register) may is = is
  by-driver t s lt sink (MemoryWord memory reader addr en) may is = is
  by-driver t s lt sink (ReadRegister memory reader) may is = is
  by-driver t s lt sink (Computed line) may is = is

  run-given : IsRunFrom one start inputs n rows
  run-given =
      record {
        count = run.count;
        settled = λ t lt. record {
          typed = (run.settled t lt).typed;
          driven = λ s low. by-driver t s lt (shape_at (signal_shapes one) s) (driver_at one s) (formed.drivers s low) ((run.settled t lt).driven s low);
        };
      }

  row-many : All (λ row. length row ≡ length one.signals) rows
  row-many i d lt =
      let long = (run.settled i (omega (arith, lt, run.count))).typed.count in
      let shapes = length-map one.signals (λ (signal : Signal). shape signal.ty) in
      ap length (get_or_default rows i d [] lt) ∙ (omega (arith, long, shapes))

  pub own-run : IsRunFrom one start inputs n (part_rows (range_with_len 0 (length one.signals)) rows)
  own-run = subst (IsRunFrom one start inputs n) (sym (rows-whole rows (length one.signals) row-many)) run-given

-- ---- all bridges

pub all-runs : (start : Start) (n : ℕ) (one : FlatCircuit) (bridges : List Attached) (columns rows : List (List ℕ)) → CanAttachAll one bridges → IsWellFormed one → IsState one start.state
    → IsRunFrom (joined_all one bridges) (record { cycle = start.cycle; state = joined_states start.state bridges; ratios = start.ratios }) columns n rows → RunsAllFrom start n rows one bridges
all-runs start n one [] columns rows can formed first run = record { circuit = λ inputs given. own-run start n one formed columns rows run inputs given; models = tt }
all-runs start n one (bridge ∷ bridges) columns rows can formed first run =
    let both = with_bridge one bridge in
    let begin = both_start start (opening bridge.model) in
    let rest = all-runs begin n both bridges columns rows can.1 (bridge-formed one bridge can.0 formed) (state-joined one bridge.front bridge.model bridge.sees bridge.drives start.state (opening bridge.model) first (IsState-opening bridge.model)) run in
    let inputs = late_columns start.cycle rows both.ins in
    let own = rest.circuit inputs (late-inputs start.cycle n rows both.ins run.count) in
    record {
      circuit = λ others given. circuit-again start n one bridge can.0 formed first inputs rows own others given;
      models = (bridge-again start n one bridge can.0 formed first inputs rows own, rest.models);
    }
