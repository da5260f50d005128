-- A part of a design is a part of the reference circuit, by the numbers by which its machine sees its signals.
use Rattle.std.proofs.Common.{◌≡◌, ◌≢◌, ℕ, zero, suc, ◌<◌, ◌≤◌, List, drop, [], ◌∷◌, length, map, get_or, refl, sym, ◌∙◌, ap, ap₂, subst, inl, inr, ◌⊎◌, arith}
use Rattle.std.specs.Prelude.{AllPairs, Option}
use Rattle.std.proofs.lemmas.List.{get_or-map, get_or_default, length-map}
use Rattle.gg_bits.specs.Shape.{Shape}
use Rattle.gg_flat.specs.declared.memory.Memory.{Memory}
use Rattle.gg_flat.specs.declared.piece.Register.{Register}
use Rattle.gg_flat.specs.declared.piece.Driver.{Driver}
use Rattle.gg_flat.specs.declared.piece.Driver.TheVariants.{Input, Held, MemoryWord, ReadRegister, Computed}
use Rattle.gg_flat.specs.Line.{value_at, shape_at}
use Rattle.gg_flat.specs.Circuit.{FlatCircuit, signal_shapes, driver_at}
use Rattle.gg_flat.specs.Clock.{edges_at}
use Rattle.gg_flat.specs.State.{IsState, next_state}
use Rattle.gg_flat.specs.Run.{Start, IsRunFrom, state_at, row_at, inputs_at, later, since}
use Rattle.gg_flat.specs.Settled.{Settled}
use Rattle.gg_flat.proofs.ListLemmas.{some-item}
use Rattle.gg_cut_split.proofs.ClosedLemmas.ListLemmas.{AllPairs-map}
use Rattle.gg_part.specs.PartRun.{part_row, part_rows, part_start}
use Rattle.gg_part.specs.inside.PartRun.{part_columns}
use Rattle.gg_part.proofs.RunLemmas.{column-at, IsRunFrom-part}
use Rattle.gg_part.specs.Part.{IsPart, IsFrom, IsRegisterFrom, IsMemoryFrom, MemoryBelow}
use Rattle.gg_cut_plan.specs.Solves.{AreRows}
use Rattle.gg_cut_reference.specs.Reference.{Views}
use Rattle.gg_cut_reference.specs.inside.Reference.{IsReference, IsSeen, IsPiped, with_paths}
use Rattle.gg_cut_reference.proofs.RenameLemmas.{value-by, line-by, register-by, memory-by}
use Rattle.gg_flat.specs.Renaming.{renamed_driver, renamed_memory, renamed_register, signals_by}

-- A driver of a part that isn't an input's.
pub data Own (part : FlatCircuit) (s : ℕ) : Type 0 where
  Outer : (place : ℕ) → driver_at part s ≡ Input place → Own part s
  Inner : ((place : ℕ) → driver_at part s ≢ Input place) → Own part s

not-input : (driver other : Driver) → driver ≡ other → ((place : ℕ) → other ≢ Input place) → (place : ℕ) → driver ≢ Input place
not-input driver other e none place is = none place (sym e ∙ is)

own-driver : (part : FlatCircuit) (s : ℕ) → Own part s
own-driver part s = by (driver_at part s) refl
  where
    by : (driver : Driver) → driver_at part s ≡ driver → Own part s
    by (Input place) e = Outer place e
    by (Held register) e = Inner (not-input (driver_at part s) (Held register) e (λ place is. absurd (cc)))
    by (MemoryWord memory reader addr en) e = Inner (not-input (driver_at part s) (MemoryWord memory reader addr en) e (λ place is. absurd (cc)))
    by (ReadRegister memory reader) e = Inner (not-input (driver_at part s) (ReadRegister memory reader) e (λ place is. absurd (cc)))
    by (Computed line) e = Inner (not-input (driver_at part s) (Computed line) e (λ place is. absurd (cc)))

module _ (one all : FlatCircuit) (views : Views) (pipes : List ℕ) (reference : IsReference one all views pipes) (m : ℕ) (seen : IsSeen one pipes (views.seen m)) (part : FlatCircuit) (globals held memories : List ℕ) (clocks : List (Option ℕ)) (is : IsPart one part globals held memories clocks) where
  -- What the machine makes: the signals of the part that aren't inputs, the registers and the memories of the part.
  pub record IsOwn : Type 0 where
    pub made : (s : ℕ) → s < length globals → ((place : ℕ) → driver_at part s ≢ Input place) → views.maker (value_at globals s) ≡ m
    pub plain : (s : ℕ) → s < length globals → ((place : ℕ) → driver_at part s ≢ Input place) → views.seen m (value_at globals s) ≡ value_at globals s
    pub held_by : (r : ℕ) → r < length held → views.holder (value_at held r) ≡ m
    pub kept_by : (k : ℕ) → k < length memories → views.keeper (value_at memories k) ≡ m

  abbrev to : ℕ → ℕ
  to s = views.seen m s

  abbrev mine : List ℕ
  mine = map (views.seen m) globals

  known-by : (t : ℕ) → t < length one.signals → (to t ≡ t) ⊎ IsPiped one pipes t (to t) → to t < length all.signals
  known-by t lt (inl e) = omega (arith, lt, e, reference.signals)
  known-by t lt (inr p) = let low = p.known in omega (arith, low, p.is, reference.signals)

  apart-by : (t u : ℕ) → t < length one.signals → u < length one.signals → t ≢ u → (to t ≡ t) ⊎ IsPiped one pipes t (to t) → (to u ≡ u) ⊎ IsPiped one pipes u (to u) → to t ≢ to u
  apart-by t u lt lu ne (inl e) (inl f) same = ne (sym e ∙ same ∙ f)
  apart-by t u lt lu ne (inl e) (inr q) same = absurd (omega (arith, lt, e, q.is, same))
  apart-by t u lt lu ne (inr p) (inl f) same = absurd (omega (arith, lu, f, p.is, same))
  apart-by t u lt lu ne (inr p) (inr q) same =
      let k : p.pipe ≡ q.pipe = omega (arith, p.is, q.is, same) in
      ne (sym p.of ∙ ap (value_at pipes) k ∙ q.of)

  shape-by : (t : ℕ) → t < length one.signals → (to t ≡ t) ⊎ IsPiped one pipes t (to t) → shape_at (signal_shapes all) (to t) ≡ shape_at (signal_shapes one) t
  shape-by t lt (inl e) = ap (shape_at (signal_shapes all)) e ∙ reference.shapes t lt
  shape-by t lt (inr p) = ap (shape_at (signal_shapes all)) p.is ∙ reference.pipe_shape p.pipe p.known ∙ ap (shape_at (signal_shapes one)) p.of

  long : length (map (views.seen m) globals) ≡ length globals
  long = length-map globals (views.seen m)

  read : (s : ℕ) → s < length globals → value_at (map (views.seen m) globals) s ≡ views.seen m (value_at globals s)
  read s lt = get_or-map (views.seen m) globals s 0 0 lt

  -- a driver of the part stands for the reference's as it stands for the design's
  from-by : (s : ℕ) (outer own : Driver) → s < length globals → IsFrom part.ins globals held memories s outer own → IsFrom part.ins (map (views.seen m) globals) held memories s (renamed_driver (signals_by (views.seen m)) outer) own
  from-by s outer (Input place) lt from = from
  from-by s outer (Held register) lt from = (from.0, ap (renamed_driver (signals_by (views.seen m))) from.1)
  from-by s outer (MemoryWord k r addr en) lt from =
      let low = from.1 in
      let high = from.2 in (
        from.0,
        omega (arith, low, long),
        omega (arith, high, long),
        ap (renamed_driver (signals_by (views.seen m))) from.3 ∙ ap₂ (λ a e. MemoryWord (value_at memories k) r a e) (value-by globals (views.seen m) addr from.1) (value-by globals (views.seen m) en from.2),
      )
  from-by s outer (ReadRegister k r) lt from = (from.0, ap (renamed_driver (signals_by (views.seen m))) from.1)
  from-by s outer (Computed line) lt from =
      ((λ t named. let low = from.0 t named in omega (arith, low, long)), ap (renamed_driver (signals_by (views.seen m))) from.1 ∙ ap Computed (line-by globals (views.seen m) line from.0))

  module _ (own : IsOwn) where
    driver-from : (s : ℕ) → s < length globals → Own part s → IsFrom part.ins (map (views.seen m) globals) held memories s (driver_at all (value_at (map (views.seen m) globals) s)) (driver_at part s)
    driver-from s lt (Outer place e) = subst (λ d. IsFrom part.ins (map (views.seen m) globals) held memories s (driver_at all (value_at (map (views.seen m) globals) s)) d) (sym e) (subst (λ d. IsFrom part.ins globals held memories s (driver_at one (value_at globals s)) d) e (is.drivers s lt))
    driver-from s lt (Inner none) =
        subst (λ d. IsFrom part.ins (map (views.seen m) globals) held memories s d (driver_at part s))
        (sym (ap (driver_at all) (read s lt ∙ own.plain s lt none) ∙ reference.drivers (value_at globals s) (is.within s lt) ∙ ap (λ j. renamed_driver (signals_by (views.seen j)) (driver_at one (value_at globals s))) (own.made s lt none)))
        (from-by s (driver_at one (value_at globals s)) (driver_at part s) lt (is.drivers s lt))

    register-from : (r : ℕ) → r < length held → IsRegisterFrom all (with_paths all part (map (views.seen m) globals)) (map (views.seen m) globals) held clocks r
    register-from r lt =
        let at = is.register_from r lt in
        let low = at.within in
        record {
          within = omega (arith, low, reference.registers);
          is = λ any other.
              let some = some-item one.registers (value_at held r) low in
              reference.register (value_at held r) some other low
              ∙ ap₂ (λ j (register : Register). renamed_register (signals_by (views.seen j)) register) (own.held_by r lt) (at.is any some)
              ∙ register-by globals (views.seen m) clocks (get_or part.registers r any) (at.below any);
          below = λ any s named. let b = at.below any s named in omega (arith, b, long);
          clocked = at.clocked;
        }

    memory-from : (k : ℕ) → k < length memories → IsMemoryFrom all (with_paths all part (map (views.seen m) globals)) (map (views.seen m) globals) memories clocks k
    memory-from k lt =
        let at = is.memory_from k lt in
        let low = at.within in
        record {
          within = omega (arith, low, reference.memories);
          is = λ any other.
              let some = some-item one.memories (value_at memories k) low in
              reference.memory (value_at memories k) some other low
              ∙ ap₂ (λ j (memory : Memory). renamed_memory (signals_by (views.seen j)) memory) (own.kept_by k lt) (at.is any some)
              ∙ memory-by globals (views.seen m) clocks (get_or part.memories k any) (at.below any);
          below = λ any. subst (λ n. MemoryBelow n (get_or part.memories k any)) (sym long) (at.below any);
          clocked = at.clocked;
          given = at.given;
        }

    pub part_of_reference : IsPart all (with_paths all part (map (views.seen m) globals)) (map (views.seen m) globals) held memories clocks
    part_of_reference =
        record {
          count = is.count ∙ sym long;
          within = λ s lt.
              let inside : s < length globals = omega (arith, lt, long) in
              subst (λ t. t < length all.signals) (sym (read s inside)) (known-by (value_at globals s) (is.within s inside) (seen (value_at globals s)));
          once = once;
          paths = refl;
          types = is.types ∙ shapes globals is.within;
          drivers = λ s lt. let inside : s < length globals = omega (arith, lt, long) in driver-from s inside (own-driver part s);
          ins = λ place lt. let at = is.ins place lt in (subst (λ n. value_at part.ins place < n) (sym long) at.0, at.1);
          outs = λ place lt. subst (λ n. value_at part.outs place < n) (sym long) (is.outs place lt);
          clock_count = is.clock_count;
          register_count = is.register_count;
          register_from = register-from;
          memory_count = is.memory_count;
          memories_once = is.memories_once;
          memory_from = memory-from;
        }
      where
        once : AllPairs (λ a b. a ≢ b) (map (views.seen m) globals)
        once =
            AllPairs-map (λ a b. a ≢ b) (views.seen m) globals (λ i j d less lt.
            let low : i < length globals = omega (arith, less, lt) in
            let at-i = get_or_default globals i d 0 low in
            let at-j = get_or_default globals j d 0 lt in
            apart-by (get_or globals i d) (get_or globals j d)
            (subst (λ t. t < length one.signals) (sym at-i) (is.within i low)) (subst (λ t. t < length one.signals) (sym at-j) (is.within j lt))
            (is.once i j d less lt) (seen (get_or globals i d)) (seen (get_or globals j d)))

        shapes : (list : List ℕ) → ((s : ℕ) → s < length list → value_at list s < length one.signals) → map (shape_at (signal_shapes one)) list ≡ map (shape_at (signal_shapes all)) (map (views.seen m) list)
        shapes [] within = refl
        shapes (t ∷ list) within =
            let lt : t < length one.signals = within 0 (omega arith) in
            ap₂ (λ (x : Shape) xs. x ∷ xs) (sym (shape-by t lt (seen t))) (shapes list (λ s inside. within (suc s) (omega (arith, inside))))

-- ---- a run doesn't depend on paths

module _ (part : FlatCircuit) (paths : List (List ℕ)) where
  pub state-paths : (start : Start) (rows : List (List ℕ)) (t : ℕ) → state_at (record part { paths = paths }) start rows t ≡ state_at part start rows t
  state-paths start rows zero = refl
  state-paths start rows (suc t) = ap (λ state. next_state (edges_at start.ratios (later start.cycle t)) part state (row_at rows t)) (state-paths start rows t)

  pub run-paths : (start : Start) (columns : List (List ℕ)) (n : ℕ) (rows : List (List ℕ)) → IsRunFrom (record part { paths = paths }) start columns n rows → IsRunFrom part start columns n rows
  run-paths start columns n rows run =
      record {
        count = run.count;
        settled = λ t lt.
            let s = subst (λ state. Settled (record part { paths = paths }) state (inputs_at columns (later start.cycle t)) (row_at rows t)) (state-paths start rows t) (run.settled t lt) in
            record { typed = s.typed; driven = s.driven };
      }

-- ---- a run of a part, from any start

pub part-zero : (globals : List ℕ) (row : List ℕ) → ((s : ℕ) → value_at row s ≡ 0) → (s : ℕ) → value_at (part_row globals row) s ≡ 0
part-zero [] row zeros s = refl
part-zero (g ∷ globals) row zeros zero = zeros g
part-zero (g ∷ globals) row zeros (suc s) = part-zero globals row zeros s

pub row-part : (globals : List ℕ) (rows : List (List ℕ)) (t : ℕ) → t < length rows → row_at (part_rows globals rows) t ≡ part_row globals (row_at rows t)
row-part globals rows t lt = get_or-map (part_row globals) rows t [] [] lt

pub drop-part : (globals : List ℕ) (rows : List (List ℕ)) (n : ℕ) → drop n (part_rows globals rows) ≡ part_rows globals (drop n rows)
drop-part globals rows zero = refl
drop-part globals [] (suc n) = refl
drop-part globals (row ∷ rows) (suc n) = drop-part globals rows n

pub later-row : (c t : ℕ) (rows : List (List ℕ)) → row_at (drop c rows) t ≡ row_at rows (later c t)
later-row zero t rows = refl
later-row (suc c) t [] = refl
later-row (suc c) t (row ∷ rows) = later-row c t rows

pub later-less : (c t e : ℕ) → c ≤ e → t < since c e → later c t < e
later-less zero t e le lt = lt
later-less (suc c) t zero le lt = absurd (omega (arith, le))
later-less (suc c) t (suc e) le lt = omega (arith, later-less c t e (omega (arith, le)) lt)

pub started-part : (whole part : FlatCircuit) (globals held memories : List ℕ) (clocks : List (Option ℕ)) → IsPart whole part globals held memories clocks → (start : Start) (columns : List (List ℕ)) (end : ℕ) (rows : List (List ℕ)) → IsState whole start.state → AreRows whole start columns end rows
    → AreRows part (part_start held memories clocks start) (part_columns globals part rows) end (part_rows globals rows)
started-part whole part globals held memories clocks is start columns end rows typed all = record {
  begun = all.begun;
  count = length-map rows (part_row globals) ∙ all.count;
  before = λ t s lt.
      let le = all.begun in
      let low : t < length rows = omega (arith, lt, le, all.count) in
      ap (λ (row : List ℕ). value_at row s) (row-part globals rows t low) ∙ part-zero globals (row_at rows t) (λ k. all.before t k lt) s;
  run =
      subst (IsRunFrom part (part_start held memories clocks start) (part_columns globals part rows) (since start.cycle end)) (sym (drop-part globals rows start.cycle))
      (IsRunFrom-part whole part globals held memories clocks is start columns (part_columns globals part rows) (since start.cycle end) (drop start.cycle rows) typed all.run
      (λ t place lt known.
      column-at whole part globals held memories clocks is rows (later start.cycle t) place (omega (arith, later-less start.cycle t end all.begun lt, all.count)) known
      ∙ ap (λ (row : List ℕ). value_at row (value_at globals (value_at part.ins place))) (sym (later-row start.cycle t rows))));
}

-- the same with other paths
pub rows-paths : (part : FlatCircuit) (paths : List (List ℕ)) (start : Start) (columns : List (List ℕ)) (end : ℕ) (rows : List (List ℕ)) → AreRows (record part { paths = paths }) start columns end rows → AreRows part start columns end rows
rows-paths part paths start columns end rows all = record {
  begun = all.begun;
  count = all.count;
  before = all.before;
  run = run-paths part paths start columns (since start.cycle end) (drop start.cycle rows) all.run;
}
