-- A part of a run is a run of the part.
use Rattle.std.specs.Prelude.{Option}
use Rattle.std.proofs.Common.{◌≡◌, ℕ, zero, suc, ◌<◌, ◌≤◌, List, [], Bool, length, map, get_or, replicate, refl, sym, ◌∙◌, ap, ap₂, subst, arith}
use Rattle.std.proofs.lemmas.List.{get_or-map, ext_get_or, length-map, length-replicate, get_or-replicate}
use Rattle.std.proofs.lemmas.Grind.{same_number_lists}
use Rattle.gg_bits.specs.Shape.{Shape, shape, uint, Fits}
use Rattle.gg_flat.specs.declared.memory.Memory.{Memory}
use Rattle.gg_flat.specs.declared.piece.Register.{Register}
use Rattle.gg_flat.specs.declared.piece.Driver.{Driver}
use Rattle.gg_flat.specs.declared.piece.Driver.TheVariants.{Input, Held, MemoryWord, ReadRegister, Computed}
use Rattle.gg_flat.specs.Clock.{Ratio, edges_at, ticks}
use Rattle.gg_flat_tree.specs.Clocked.{clock_at}
use Rattle.gg_flat.specs.Line.{value_at, shape_at, AreTyped}
use Rattle.gg_flat.specs.Circuit.{FlatCircuit, signal_shapes, driver_at}
use Rattle.gg_flat.specs.Memory.{Bank, read_word, bank_at, next_banks, next_bank, opening_bank}
use Rattle.gg_flat.specs.State.{State, opening, next_state, next_register, next_registers, IsState}
use Rattle.gg_flat.specs.Settled.{Settled, driver_value}
use Rattle.gg_flat.specs.Run.{Start, later, clocked_start, IsRunFrom, IsColumns, state_at, row_at, inputs_at, column}
use Rattle.gg_flat.proofs.AdvanceLemmas.{length-next_registers, next_registers-at}
use Rattle.gg_flat.proofs.BankLemmas.{length-next_banks, next_banks-at}
use Rattle.gg_flat.proofs.TypedLemmas.{shape_at-in_shapes}
use Rattle.gg_flat.proofs.StateLemmas.{IsState-opening}
use Rattle.gg_flat.proofs.ListLemmas.{some-item}
use Rattle.gg_part.specs.Part.{IsPart, IsFrom, in_whole}
use Rattle.gg_part.specs.PartRun.{part_row, part_rows, part_state, part_ratios, part_start}
use Rattle.gg_part.specs.inside.PartRun.{part_columns}
use Rattle.gg_part.proofs.RenameLemmas.{part_row-at, connected-renamed, register-renamed, bank-renamed, ticks-part}
use Rattle.gg_flat.proofs.RenamedLaws.{opening-renamed}
use Rattle.gg_flat.specs.Renaming.{renamed_memory, renamed_register}

-- a state has as many registers and banks as the circuit
pub record HasCounts (circuit : FlatCircuit) (state : State) : Type 0 where
  pub registers : length state.registers ≡ length circuit.registers
  pub banks : length state.banks ≡ length circuit.memories

HasCounts-state : (circuit : FlatCircuit) (state : State) → IsState circuit state → HasCounts circuit state
HasCounts-state circuit state is =
    record { registers = is.typed.count ∙ length-map circuit.registers (λ (r : Register). shape r.ty); banks = is.held.count }

HasCounts-next : (edges : List Bool) (circuit : FlatCircuit) (state : State) (row : List ℕ) → HasCounts circuit state → HasCounts circuit (next_state edges circuit state row)
HasCounts-next edges circuit state row has =
    record {
      registers = length-next_registers edges row circuit.registers state.registers has.registers;
      banks = length-next_banks edges row circuit.memories state.banks has.banks;
    }

abbrev nothing : Bank
nothing = record { words = []; reads = [] }

bank-at : (memories : List ℕ) (banks : List Bank) (m : ℕ) → m < length memories → bank_at (map (bank_at banks) memories) m ≡ bank_at banks (value_at memories m)
bank-at memories banks m lt = get_or-map (bank_at banks) memories m 0 nothing lt

-- the values of the part's inputs are the values of its in-signals in the row
pub record AreInputs (part : FlatCircuit) (globals inputs row : List ℕ) : Type 0 where
  pub each : (place : ℕ) → place < length part.ins → value_at inputs place ≡ value_at row (value_at globals (value_at part.ins place))

module _ (whole part : FlatCircuit) (globals held memories : List ℕ) (clocks : List (Option ℕ)) (is : IsPart whole part globals held memories clocks) where
  -- a driver of the part gives what the whole's driver gives
  driver-part : (state : State) (inputs own row : List ℕ) (sink : Shape) (s : ℕ) (outer inner : Driver) → IsFrom part.ins globals held memories s outer inner → AreInputs part globals own row → value_at row (value_at globals s) ≡ driver_value state inputs row sink outer → value_at row (value_at globals s) ≡ driver_value (part_state held memories state) own (part_row globals row) sink inner
  driver-part state inputs own row sink s outer (Input place) from given driven =
      sym (given.each place from.0 ∙ ap (λ t. value_at row (value_at globals t)) from.1)
  driver-part state inputs own row sink s outer (Held register) from given driven =
      driven ∙ ap (driver_value state inputs row sink) from.1 ∙ sym (get_or-map (value_at state.registers) held register 0 0 from.0)
  driver-part state inputs own row sink s outer (MemoryWord m r addr en) from given driven =
      driven ∙ ap (driver_value state inputs row sink) from.3
      ∙ ap₂ (λ (bank : Bank) (a : ℕ). read_word bank.words a (value_at row (value_at globals en))) (sym (bank-at memories state.banks m from.0)) (sym (part_row-at globals row addr from.1))
      ∙ ap (read_word (bank_at (map (bank_at state.banks) memories) m).words (value_at (part_row globals row) addr)) (sym (part_row-at globals row en from.2))
  driver-part state inputs own row sink s outer (ReadRegister m r) from given driven =
      driven ∙ ap (driver_value state inputs row sink) from.1 ∙ ap (λ (bank : Bank). value_at bank.reads r) (sym (bank-at memories state.banks m from.0))
  driver-part state inputs own row sink s outer (Computed line) from given driven =
      driven ∙ ap (driver_value state inputs row sink) from.1 ∙ connected-renamed globals row sink line from.0

  -- a signal of the part has the same shape as in the whole
  pub shape-part : (s : ℕ) → s < length globals → shape_at (signal_shapes part) s ≡ shape_at (signal_shapes whole) (value_at globals s)
  shape-part s lt = ap (λ shapes. shape_at shapes s) is.types ∙ get_or-map (shape_at (signal_shapes whole)) globals s 0 (uint 0) lt

  pub length-shapes : length (signal_shapes part) ≡ length globals
  length-shapes = ap length is.types ∙ length-map globals (shape_at (signal_shapes whole))

  typed-part : (row : List ℕ) → AreTyped (signal_shapes whole) row → AreTyped (signal_shapes part) (part_row globals row)
  typed-part row typed =
      record {
        count = length-map globals (value_at row) ∙ sym length-shapes;
        fits = λ s lt.
            let known : s < length globals = omega (arith, lt, length-shapes) in
            let inside : value_at globals s < length (signal_shapes whole) = omega (arith, is.within s known, length-map whole.signals (λ signal. shape signal.ty)) in
            subst (λ sh. Fits sh (value_at (part_row globals row) s)) (sym (shape-part s known))
            (subst (Fits (shape_at (signal_shapes whole) (value_at globals s))) (sym (part_row-at globals row s known)) (typed.fits (value_at globals s) inside));
      }

  pub Settled-part : (state : State) (inputs own row : List ℕ) → AreInputs part globals own row → Settled whole state inputs row → Settled part (part_state held memories state) own (part_row globals row)
  Settled-part state inputs own row given settled =
      record {
        typed = typed-part row settled.typed;
        driven = λ s lt.
            let known : s < length globals = omega (arith, lt, is.count) in
            part_row-at globals row s known
            ∙ driver-part state inputs own row (shape_at (signal_shapes whole) (value_at globals s)) s (driver_at whole (value_at globals s)) (driver_at part s) (is.drivers s known) given (settled.driven (value_at globals s) (is.within s known))
            ∙ ap (λ sink. driver_value (part_state held memories state) own (part_row globals row) sink (driver_at part s)) (sym (shape-part s known));
      }

  -- ---- states

  module _ (edges mine : List Bool) (same : (clock : Option ℕ) → ticks edges (clock_at clocks clock) ≡ ticks mine clock) where
    registers-part : (state : State) (row : List ℕ) → HasCounts whole state → next_registers mine (part_row globals row) part.registers (map (value_at state.registers) held) ≡ map (value_at (next_registers edges row whole.registers state.registers)) held
    registers-part state row has =
        let own = map (value_at state.registers) held in
        let count : length own ≡ length part.registers = length-map held (value_at state.registers) ∙ sym is.register_count in
        let long : length (next_registers mine (part_row globals row) part.registers own) ≡ length part.registers = length-next_registers mine (part_row globals row) part.registers own count in
        same_number_lists (next_registers mine (part_row globals row) part.registers own) (map (value_at (next_registers edges row whole.registers state.registers)) held)
        (long ∙ is.register_count ∙ sym (length-map held (value_at (next_registers edges row whole.registers state.registers)))) (λ r lt.
        let within : r < length part.registers = omega (arith, lt, long) in
        let known : r < length held = omega (arith, within, is.register_count) in
        let some = some-item part.registers r within in
        let local = get_or part.registers r some in
        let at = is.register_from r known in
        next_registers-at mine (part_row globals row) part.registers own r some count within
        ∙ ap (next_register mine (part_row globals row) local) (get_or-map (value_at state.registers) held r 0 0 known)
        ∙ sym (register-renamed globals row clocks edges mine same local (value_at state.registers (value_at held r)) (at.below some))
        ∙ ap (λ (register : Register). next_register edges row register (value_at state.registers (value_at held r))) (sym (at.is some (renamed_register (in_whole globals clocks) local)))
        ∙ sym (next_registers-at edges row whole.registers state.registers (value_at held r) (renamed_register (in_whole globals clocks) local) has.registers at.within)
        ∙ sym (get_or-map (value_at (next_registers edges row whole.registers state.registers)) held r 0 0 known))

    banks-part : (state : State) (row : List ℕ) → HasCounts whole state → next_banks mine (part_row globals row) part.memories (map (bank_at state.banks) memories) ≡ map (bank_at (next_banks edges row whole.memories state.banks)) memories
    banks-part state row has =
        let own = map (bank_at state.banks) memories in
        let count : length own ≡ length part.memories = length-map memories (bank_at state.banks) ∙ sym is.memory_count in
        let long : length (next_banks mine (part_row globals row) part.memories own) ≡ length part.memories = length-next_banks mine (part_row globals row) part.memories own count in
        ext_get_or nothing (next_banks mine (part_row globals row) part.memories own) (map (bank_at (next_banks edges row whole.memories state.banks)) memories)
        (long ∙ is.memory_count ∙ sym (length-map memories (bank_at (next_banks edges row whole.memories state.banks)))) (λ m lt.
        let within : m < length part.memories = omega (arith, lt, long) in
        let known : m < length memories = omega (arith, within, is.memory_count) in
        let some = some-item part.memories m within in
        let local = get_or part.memories m some in
        let at = is.memory_from m known in
        next_banks-at mine (part_row globals row) part.memories own m some count within
        ∙ ap (next_bank mine (part_row globals row) local) (bank-at memories state.banks m known)
        ∙ sym (bank-renamed globals row clocks edges mine same local (bank_at state.banks (value_at memories m)) (at.below some))
        ∙ ap (λ (memory : Memory). next_bank edges row memory (bank_at state.banks (value_at memories m))) (sym (at.is some (renamed_memory (in_whole globals clocks) local)))
        ∙ sym (next_banks-at edges row whole.memories state.banks (value_at memories m) (renamed_memory (in_whole globals clocks) local) has.banks at.within)
        ∙ sym (bank-at memories (next_banks edges row whole.memories state.banks) m known))

    next-part : (state : State) (row : List ℕ) → HasCounts whole state → next_state mine part (part_state held memories state) (part_row globals row) ≡ part_state held memories (next_state edges whole state row)
    next-part state row has =
        let make : List ℕ → List Bank → State = λ registers banks. record { registers = registers; banks = banks } in
        ap₂ make (registers-part state row has) (banks-part state row has)

  row-part : (rows : List (List ℕ)) (t : ℕ) → t < length rows → row_at (part_rows globals rows) t ≡ part_row globals (row_at rows t)
  row-part rows t lt = get_or-map (part_row globals) rows t [] [] lt

  HasCounts-at : (start : Start) (rows : List (List ℕ)) → HasCounts whole start.state → (t : ℕ) → HasCounts whole (state_at whole start rows t)
  HasCounts-at start rows has zero = has
  HasCounts-at start rows has (suc t) = HasCounts-next (edges_at start.ratios (later start.cycle t)) whole (state_at whole start rows t) (row_at rows t) (HasCounts-at start rows has t)

  pub state-part : (start : Start) (rows : List (List ℕ)) → HasCounts whole start.state → (t : ℕ) → t ≤ length rows → state_at part (part_start held memories clocks start) (part_rows globals rows) t ≡ part_state held memories (state_at whole start rows t)
  state-part start rows has zero le = refl
  state-part start rows has (suc t) le =
      let mine = edges_at (part_ratios clocks start.ratios) (later start.cycle t) in
      ap₂ (next_state mine part) (state-part start rows has t (omega arith)) (row-part rows t (omega arith))
      ∙ next-part (edges_at start.ratios (later start.cycle t)) mine (ticks-part clocks start.ratios (later start.cycle t)) (state_at whole start rows t) (row_at rows t) (HasCounts-at start rows has t)

  IsRunFrom-counts : (start : Start) (columns inputs : List (List ℕ)) (n : ℕ) (rows : List (List ℕ)) → HasCounts whole start.state → IsRunFrom whole start columns n rows → ((t : ℕ) → t < n → AreInputs part globals (inputs_at inputs (later start.cycle t)) (row_at rows t)) → IsRunFrom part (part_start held memories clocks start) inputs n (part_rows globals rows)
  IsRunFrom-counts start columns inputs n rows has run given =
      record {
        count = length-map rows (part_row globals) ∙ run.count;
        settled = λ t lt.
            let inside : t < length rows = omega (arith, lt, run.count) in
            subst (λ state. Settled part state (inputs_at inputs (later start.cycle t)) (row_at (part_rows globals rows) t)) (sym (state-part start rows has t (omega arith)))
            (subst (Settled part (part_state held memories (state_at whole start rows t)) (inputs_at inputs (later start.cycle t))) (sym (row-part rows t inside))
            (Settled-part (state_at whole start rows t) (inputs_at columns (later start.cycle t)) (inputs_at inputs (later start.cycle t)) (row_at rows t) (given t lt) (run.settled t lt)));
      }

  -- ---- the opening

  zeros-part : (n : ℕ) → ((r : ℕ) → r < length held → value_at held r < n) → map (value_at (replicate n 0)) held ≡ replicate (length held) 0
  zeros-part n below =
      same_number_lists (map (value_at (replicate n 0)) held) (replicate (length held) 0) (length-map held (value_at (replicate n 0)) ∙ sym (length-replicate (length held) 0)) (λ r lt.
      let known : r < length held = omega (arith, lt, length-map held (value_at (replicate n 0))) in
      get_or-map (value_at (replicate n 0)) held r 0 0 known
      ∙ get_or-replicate n (value_at held r) 0 0 (below r known)
      ∙ sym (get_or-replicate (length held) r 0 0 known))

  opening-banks : map (bank_at (map (λ memory. opening_bank memory) whole.memories)) memories ≡ map (λ memory. opening_bank memory) part.memories
  opening-banks =
      let banks = map (λ memory. opening_bank memory) whole.memories in
      ext_get_or nothing (map (bank_at banks) memories) (map (λ memory. opening_bank memory) part.memories)
      (length-map memories (bank_at banks) ∙ sym is.memory_count ∙ sym (length-map part.memories (λ memory. opening_bank memory))) (λ m lt.
      let known : m < length memories = omega (arith, lt, length-map memories (bank_at banks)) in
      let within : m < length part.memories = omega (arith, known, is.memory_count) in
      let some = some-item part.memories m within in
      let local = get_or part.memories m some in
      let at = is.memory_from m known in
      bank-at memories banks m known
      ∙ get_or-map (λ memory. opening_bank memory) whole.memories (value_at memories m) (renamed_memory (in_whole globals clocks) local) nothing at.within
      ∙ ap (λ memory. opening_bank memory) (at.is some (renamed_memory (in_whole globals clocks) local))
      ∙ opening-renamed (in_whole globals clocks) local
      ∙ sym (get_or-map (λ memory. opening_bank memory) part.memories m some nothing within))

  pub opening-part : part_state held memories (opening whole) ≡ opening part
  opening-part =
      let make : List ℕ → List Bank → State = λ registers banks. record { registers = registers; banks = banks } in
      ap₂ make (zeros-part (length whole.registers) (λ r lt. (is.register_from r lt).within) ∙ ap (λ n. replicate n 0) (sym is.register_count)) opening-banks

  -- ---- columns

  pub column-at : (rows : List (List ℕ)) (t place : ℕ) → t < length rows → place < length part.ins → value_at (inputs_at (part_columns globals part rows) t) place ≡ value_at (row_at rows t) (value_at globals (value_at part.ins place))
  column-at rows t place lt known =
      let columns = part_columns globals part rows in
      get_or-map (λ (c : List ℕ). value_at c t) columns place [] 0 (omega (arith, known, length-map part.ins (λ s. column rows (value_at globals s))))
      ∙ ap (λ (c : List ℕ). value_at c t) (get_or-map (λ s. column rows (value_at globals s)) part.ins place 0 [] known)
      ∙ get_or-map (λ (row : List ℕ). value_at row (value_at globals (value_at part.ins place))) rows t [] 0 lt

  pub IsRun-part : (ratios : List Ratio) (columns : List (List ℕ)) (n : ℕ) (rows : List (List ℕ)) → IsRunFrom whole (clocked_start whole ratios) columns n rows
      → IsRunFrom part (clocked_start part (part_ratios clocks ratios)) (part_columns globals part rows) n (part_rows globals rows)
  IsRun-part ratios columns n rows run =
      let from : State → Start = λ state. record { cycle = 0; state = state; ratios = part_ratios clocks ratios } in
      subst (λ state. IsRunFrom part (from state) (part_columns globals part rows) n (part_rows globals rows)) opening-part
      (IsRunFrom-counts (clocked_start whole ratios) columns (part_columns globals part rows) n rows (HasCounts-state whole (opening whole) (IsState-opening whole)) run
      (λ t lt. record { each = λ place known. column-at rows t place (omega (arith, lt, run.count)) known }))

  pub IsRunFrom-part : (start : Start) (columns inputs : List (List ℕ)) (n : ℕ) (rows : List (List ℕ)) → IsState whole start.state → IsRunFrom whole start columns n rows → ((t place : ℕ) → t < n → place < length part.ins → value_at (inputs_at inputs (later start.cycle t)) place ≡ value_at (row_at rows t) (value_at globals (value_at part.ins place))) → IsRunFrom part (part_start held memories clocks start) inputs n (part_rows globals rows)
  IsRunFrom-part start columns inputs n rows state run given =
      IsRunFrom-counts start columns inputs n rows (HasCounts-state whole start.state state) run (λ t lt. record { each = λ place known. given t place lt known })

  pub IsColumns-part : (ratios : List Ratio) (columns : List (List ℕ)) (n : ℕ) (rows : List (List ℕ)) → IsRunFrom whole (clocked_start whole ratios) columns n rows → IsColumns part n (part_columns globals part rows)
  IsColumns-part ratios columns n rows run =
      let own = part_columns globals part rows in
      let count : length own ≡ length part.ins = length-map part.ins (λ s. column rows (value_at globals s)) in
      record {
        count = count;
        height = λ place d lt.
            let known : place < length part.ins = omega (arith, lt, count) in
            ap length (get_or-map (λ s. column rows (value_at globals s)) part.ins place 0 d known)
            ∙ length-map rows (λ row. value_at row (value_at globals (value_at part.ins place)))
            ∙ run.count;
        inputs = λ t lt.
            let inside : t < length rows = omega (arith, lt, run.count) in
            let typed = typed-part (row_at rows t) (run.settled t lt).typed in
            record {
              count = length-map own (λ (c : List ℕ). value_at c t) ∙ count ∙ sym (length-map part.ins (shape_at (signal_shapes part)));
              fits = λ place lt.
                  let known : place < length part.ins = omega (arith, lt, length-map part.ins (shape_at (signal_shapes part))) in
                  let signal = (is.ins place known).0 in
                  subst (λ sh. Fits sh (value_at (inputs_at own t) place)) (sym (shape_at-in_shapes part place known))
                  (subst (Fits (shape_at (signal_shapes part) (value_at part.ins place))) (part_row-at globals (row_at rows t) (value_at part.ins place) signal ∙ sym (column-at rows t place inside known))
                  (typed.fits (value_at part.ins place) (omega (arith, signal, length-shapes))));
            };
      }
