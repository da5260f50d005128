-- The circuit and the model are parts of the circuit with the model.
use Rattle.std.proofs.Common.{◌≡◌, ◌≢◌, ℕ, ◌+◌, ◌<◌, List, [], ◌++◌, length, map, get_or, Option, Some, None, refl, sym, ◌∙◌, ap, ap₂, subst, inl, inr, ext_get_or, arith}
use Rattle.std.specs.List.{range_with_len}
use Rattle.std.proofs.lemmas.List.{get_or-map, get_or_default, length-map}
use Rattle.std.proofs.lemmas.List.FromFn.{length-range_with_len, length-map-range_with_len, get_or-map-range_with_len}
use Rattle.gg_bits.specs.Shape.{shape, uint}
use Rattle.gg_bits.specs.declared.types.Ty.{Ty}
use Rattle.gg_flat.specs.declared.piece.Signal.{Signal}
use Rattle.gg_flat.specs.declared.piece.Register.{Register}
use Rattle.gg_flat.specs.declared.piece.Driver.{Driver}
use Rattle.gg_flat.specs.declared.piece.Driver.TheVariants.{Input, Held, MemoryWord, ReadRegister, Computed}
use Rattle.gg_flat.specs.declared.memory.Latency.{Latency}
use Rattle.gg_flat.specs.declared.memory.Latency.TheVariants.{Zero, One as Late}
use Rattle.gg_flat.specs.declared.memory.Memory.{Memory}
use Rattle.gg_flat_tree.specs.Clocked.{clocks_from, clock_at}
use Rattle.gg_flat.specs.Line.{value_at, shape_at}
use Rattle.gg_flat.specs.Circuit.{FlatCircuit, signal_shapes, driver_at, readers_at, reader_at, latency_at}
use Rattle.gg_flat.specs.Reads.{NamesSignal}
use Rattle.gg_flat_tree.specs.Tree.{path_at}
use Rattle.gg_flat.specs.WellFormed.{IsWellFormed, IsClock, IsClockedMemory, MayDrive, reader_driver}
use Rattle.gg_flat.proofs.ListLemmas.{some-item}
use Rattle.gg_flat.proofs.TypedLemmas.{has-reader}
use Rattle.gg_order.proofs.ReadLemmas.{names_within}
use Rattle.gg_part.specs.Part.{in_whole, IsPart, IsFrom, IsRegisterFrom, IsMemoryFrom, RegisterBelow, MemoryBelow}
use Rattle.gg_bridge.specs.inside.Joined.{numbers_behind, linked_driver, placed, CanJoin}
use Rattle.gg_bridge.specs.Joined.{place_among, without, globals_behind, held_behind, memories_behind, driver_behind, joined}
use Rattle.gg_flat.proofs.RenamedLaws.{register-agree, memory-agree}
use Rattle.gg_bridge.proofs.ClockLemmas.{every_tick, clocks-count, clock-known, clock-same}
use Rattle.gg_bridge.proofs.NumberLemmas.{Tells, place-tells, behind, behind-first, behind-once}
use Rattle.gg_bridge.proofs.SameLemmas.{line-same, register-same, memory-same}
use Rattle.gg_bridge.proofs.KnownLemmas.{register-below, memory-below}
use Rattle.gg_bridge.proofs.AtLemmas.{long, many, banks, shape-old, shape-new, driver-old, driver-new, register-old, register-new, memory-old, memory-new, path-old, path-new}

-- an input drives nothing but an in-signal: a reader's data has another driver
not-input : (circuit : FlatCircuit) (m r place : ℕ) → IsWellFormed circuit → m < length circuit.memories → r < length (readers_at circuit m) → driver_at circuit (reader_at (readers_at circuit m) r).word ≢ Input place
not-input circuit m r place formed lt inside is = by (latency_at circuit m) (sym is ∙ formed.reads m lt r inside)
  where
    by : (latency : Latency) → Input place ≡ reader_driver latency m r (reader_at (readers_at circuit m) r) → ⊥
    by Zero e = cc
    by (Late under) e = cc

module _ (one : FlatCircuit) (front : List ℕ) (model : FlatCircuit) (sees drives : List ℕ) (can : CanJoin one front model sees drives) (formed : IsWellFormed one) where
  abbrev all : FlatCircuit
  all = joined one front model sees drives

  abbrev globals : List ℕ
  globals = range_with_len 0 (length one.signals)

  abbrev held : List ℕ
  held = range_with_len 0 (length one.registers)

  abbrev memories : List ℕ
  memories = range_with_len 0 (length one.memories)

  count : length (range_with_len 0 (length one.signals)) ≡ length one.signals
  count = length-range_with_len 0 (length one.signals)

  kept : (clock : Option ℕ) → IsClock (length (clocks_from 0 one.clocks)) clock → clock_at (clocks_from 0 one.clocks) clock ≡ clock
  kept clock is = clock-same one.clocks clock (clock-known one.clocks clock is)

  same : (s : ℕ) → s < length (range_with_len 0 (length one.signals)) → value_at (range_with_len 0 (length one.signals)) s ≡ s
  same s lt = behind-first (length one.signals) s (omega (arith, lt, count))

  -- what is driven is an input of the circuit
  driven-input : (s i : ℕ) → Tells drives s (Some i) → (place : ℕ) × (driver_at one s ≡ Input place)
  driven-input s i t =
      let h = can.driven i t.0 in
      let at = formed.ins h.0 h.1 in
      let is = get_or_default one.ins h.0 0 (value_at drives i) h.1 ∙ h.2 ∙ t.1 in
      (h.0, ap (driver_at one) (sym is) ∙ at.1)

  from : (s : ℕ) (ty : Ty) (driver : Driver) (o : Option ℕ) → s < length one.signals → driver_at one s ≡ driver → MayDrive one s driver → Tells drives s o
      → IsFrom one.ins (range_with_len 0 (length one.signals)) (range_with_len 0 (length one.registers)) (range_with_len 0 (length one.memories)) s (linked_driver (map (value_at (globals_behind one model)) model.outs) (without drives one.ins) s ty driver o) driver
  from s ty (Input place) o lt e may t = may
  from s ty (Held register) None lt e may t =
      let low = may.0 in
      (omega (arith, low, length-range_with_len 0 (length one.registers)), ap Held (sym (behind-first (length one.registers) register low)))
  from s ty (Held register) (Some i) lt e may t = let is = driven-input s i t in absurd (let clash = sym e ∙ is.1 in cc)
  from s ty (MemoryWord memory reader addr en) None lt e may t =
      let has = (has-reader one memory reader s formed may).within in
      let names : (u : ℕ) → NamesSignal (MemoryWord memory reader addr en) u → u < length one.signals = λ u named. names_within one s u formed lt (subst (λ d. NamesSignal d u) (sym e) named) in
      let a = names addr (inl refl) in
      let b = names en (inr refl) in (
        omega (arith, has, length-range_with_len 0 (length one.memories)),
        omega (arith, a, count),
        omega (arith, b, count),
        ap (λ k. MemoryWord k reader addr en) (sym (behind-first (length one.memories) memory has))
            ∙ ap₂ (λ x y. MemoryWord (value_at (range_with_len 0 (length one.memories)) memory) reader x y) (sym (behind-first (length one.signals) addr a)) (sym (behind-first (length one.signals) en b)),
      )
  from s ty (MemoryWord memory reader addr en) (Some i) lt e may t = let is = driven-input s i t in absurd (let clash = sym e ∙ is.1 in cc)
  from s ty (ReadRegister memory reader) None lt e may t =
      let has = (has-reader one memory reader s formed may).within in
      (omega (arith, has, length-range_with_len 0 (length one.memories)), ap (λ k. ReadRegister k reader) (sym (behind-first (length one.memories) memory has)))
  from s ty (ReadRegister memory reader) (Some i) lt e may t = let is = driven-input s i t in absurd (let clash = sym e ∙ is.1 in cc)
  from s ty (Computed line) None lt e may t =
      let below : (u : ℕ) → NamesSignal (Computed line) u → u < length (range_with_len 0 (length one.signals)) = λ u named. let low = names_within one s u formed lt (subst (λ d. NamesSignal d u) (sym e) named) in omega (arith, low, count) in
      (below, ap Computed (sym (line-same (range_with_len 0 (length one.signals)) same line below)))
  from s ty (Computed line) (Some i) lt e may t = let is = driven-input s i t in absurd (let clash = sym e ∙ is.1 in cc)

  register-from : (r : ℕ) → r < length one.registers → IsRegisterFrom (joined one front model sees drives) one (range_with_len 0 (length one.signals)) (range_with_len 0 (length one.registers)) (clocks_from 0 one.clocks) r
  register-from r lt =
      let at = behind-first (length one.registers) r lt in
      let below : (any : Register) → RegisterBelow (length (range_with_len 0 (length one.signals))) (get_or one.registers r any) = λ any. subst (λ n. RegisterBelow n (get_or one.registers r any)) (sym count) (register-below one formed r any lt) in
      let clocked : (any : Register) → IsClock (length (clocks_from 0 one.clocks)) (get_or one.registers r any).clock = λ any. subst (λ n. IsClock n (get_or one.registers r any).clock) (sym (clocks-count 0 one.clocks)) (formed.register_clocks r any lt) in
      record {
        within = omega (arith, at, lt, many one front model sees drives);
        is = λ any other.
            ap (λ k. get_or all.registers k other) at
            ∙ register-old one front model sees drives r other lt
            ∙ get_or_default one.registers r other any lt
            ∙ sym (register-same (range_with_len 0 (length one.signals)) same (clocks_from 0 one.clocks) kept (get_or one.registers r any) (below any) (clocked any));
        below = below;
        clocked = clocked;
      }

  memory-from : (m : ℕ) → m < length one.memories → IsMemoryFrom (joined one front model sees drives) one (range_with_len 0 (length one.signals)) (range_with_len 0 (length one.memories)) (clocks_from 0 one.clocks) m
  memory-from m lt =
      let at = behind-first (length one.memories) m lt in
      let below : (any : Memory) → MemoryBelow (length (range_with_len 0 (length one.signals))) (get_or one.memories m any) = λ any. subst (λ n. MemoryBelow n (get_or one.memories m any)) (sym count) (memory-below one formed m any lt) in
      let clocked : (any : Memory) → IsClockedMemory (length (clocks_from 0 one.clocks)) (get_or one.memories m any) = λ any. subst (λ n. IsClockedMemory n (get_or one.memories m any)) (sym (clocks-count 0 one.clocks)) (formed.memory_clocks m any lt) in
      record {
        within = omega (arith, at, lt, banks one front model sees drives);
        is = λ any other.
            ap (λ k. get_or all.memories k other) at
            ∙ memory-old one front model sees drives m other lt
            ∙ get_or_default one.memories m other any lt
            ∙ sym (memory-same (range_with_len 0 (length one.signals)) same (clocks_from 0 one.clocks) kept (get_or one.memories m any) (below any) (clocked any));
        below = below;
        clocked = clocked;
        given = λ r place inside. not-input one m r place formed lt inside;
      }

  pub front-part : IsPart (joined one front model sees drives) one (range_with_len 0 (length one.signals)) (range_with_len 0 (length one.registers)) (range_with_len 0 (length one.memories)) (clocks_from 0 one.clocks)
  front-part =
      record {
        count = sym count;
        within = λ s lt. (let low : s < length one.signals = omega (arith, lt, count) in let at = behind-first (length one.signals) s low in omega (arith, at, low, long one front model sees drives));
        once = behind-once 0 (length one.signals);
        paths = ext_get_or [] one.paths (map (path_at all.paths) globals) (formed.named ∙ sym (length-map-range_with_len (path_at all.paths) 0 (length one.signals))) (λ s lt.
            let low : s < length one.signals = omega (arith, lt, formed.named) in
            sym (path-old one front model sees drives s lt) ∙ sym (get_or-map-range_with_len (path_at all.paths) 0 (length one.signals) s s [] low (let z : 0 + s ≡ s = omega arith in z)));
        types = ext_get_or (uint 0) (signal_shapes one) (map (shape_at (signal_shapes all)) globals) (length-map one.signals (λ (signal : Signal). shape signal.ty) ∙ sym (length-map-range_with_len (shape_at (signal_shapes all)) 0 (length one.signals))) (λ s lt.
            let low : s < length one.signals = omega (arith, lt, length-map one.signals (λ (signal : Signal). shape signal.ty)) in
            sym (shape-old one front model sees drives s low) ∙ sym (get_or-map-range_with_len (shape_at (signal_shapes all)) 0 (length one.signals) s s (uint 0) low (let z : 0 + s ≡ s = omega arith in z)));
        drivers = λ s lt.
            let low : s < length one.signals = omega (arith, lt, count) in
            let any = some-item one.signals s low in
            subst (λ outer. IsFrom one.ins globals held memories s outer (driver_at one s)) (sym (ap (driver_at all) (same s lt) ∙ driver-old one front model sees drives s any low))
            (from s (get_or one.signals s any).ty (driver_at one s) (place_among drives s) low refl (formed.drivers s low) (place-tells drives s));
        ins = λ place lt. (let at = formed.ins place lt in let low = at.0 in (omega (arith, low, count), at.1));
        outs = λ place lt. (let low = formed.outs place lt in omega (arith, low, count));
        clock_count = sym (clocks-count 0 one.clocks);
        register_count = sym (length-range_with_len 0 (length one.registers));
        register_from = λ r lt. register-from r (omega (arith, lt, length-range_with_len 0 (length one.registers)));
        memory_count = sym (length-range_with_len 0 (length one.memories));
        memories_once = behind-once 0 (length one.memories);
        memory_from = λ m lt. memory-from m (omega (arith, lt, length-range_with_len 0 (length one.memories)));
      }

module _ (one : FlatCircuit) (front : List ℕ) (model : FlatCircuit) (sees drives : List ℕ) (named : length one.paths ≡ length one.signals) (formed : IsWellFormed model) (none : model.clocks ≡ 0) where
  abbrev whole : FlatCircuit
  whole = joined one front model sees drives

  long-globals : length (globals_behind one model) ≡ length model.signals
  long-globals = length-range_with_len (length one.signals) (length model.signals)

  long-held : length (held_behind one model) ≡ length model.registers
  long-held = length-range_with_len (length one.registers) (length model.registers)

  long-memories : length (memories_behind one model) ≡ length model.memories
  long-memories = length-range_with_len (length one.memories) (length model.memories)

  at : (i : ℕ) → i < length model.signals → value_at (globals_behind one model) i ≡ length one.signals + i
  at i lt = behind (length one.signals) (length model.signals) i lt

  from-model : (i : ℕ) (ty : Ty) (driver : Driver) → i < length model.signals → driver_at model i ≡ driver → MayDrive model i driver
      → IsFrom model.ins (globals_behind one model) (held_behind one model) (memories_behind one model) i (driver_behind (globals_behind one model) (held_behind one model) (memories_behind one model) sees ty driver) driver
  from-model i ty (Input place) lt e may = may
  from-model i ty (Held register) lt e may = (let low = may.0 in omega (arith, low, long-held), refl)
  from-model i ty (MemoryWord memory reader addr en) lt e may =
      let has = (has-reader model memory reader i formed may).within in
      let names : (u : ℕ) → NamesSignal (MemoryWord memory reader addr en) u → u < length model.signals = λ u n. names_within model i u formed lt (subst (λ d. NamesSignal d u) (sym e) n) in
      let a = names addr (inl refl) in
      let b = names en (inr refl) in
      (omega (arith, has, long-memories), omega (arith, a, long-globals), omega (arith, b, long-globals), refl)
  from-model i ty (ReadRegister memory reader) lt e may =
      let has = (has-reader model memory reader i formed may).within in
      (omega (arith, has, long-memories), refl)
  from-model i ty (Computed line) lt e may =
      (λ u n. (let low = names_within model i u formed lt (subst (λ d. NamesSignal d u) (sym e) n) in omega (arith, low, long-globals)), refl)

  register-model : (r : ℕ) → r < length model.registers → IsRegisterFrom (joined one front model sees drives) (placed front model) (globals_behind one model) (held_behind one model) [] r
  register-model r lt =
      let to : value_at (held_behind one model) r ≡ length one.registers + r = behind (length one.registers) (length model.registers) r lt in
      record {
        within = omega (arith, to, lt, many one front model sees drives);
        is = λ any other. ap (λ k. get_or whole.registers k other) to ∙ register-new one front model sees drives r any other lt ∙ register-agree (numbers_behind one model) (in_whole (globals_behind one model) []) (get_or model.registers r any) (λ s named. refl) (sym (every_tick (get_or model.registers r any).clock));
        below = λ any. subst (λ n. RegisterBelow n (get_or model.registers r any)) (sym long-globals) (register-below model formed r any lt);
        clocked = λ any. subst (λ n. IsClock n (get_or model.registers r any).clock) none (formed.register_clocks r any lt);
      }

  memory-model : (m : ℕ) → m < length model.memories → IsMemoryFrom (joined one front model sees drives) (placed front model) (globals_behind one model) (memories_behind one model) [] m
  memory-model m lt =
      let to : value_at (memories_behind one model) m ≡ length one.memories + m = behind (length one.memories) (length model.memories) m lt in
      record {
        within = omega (arith, to, lt, banks one front model sees drives);
        is = λ any other. ap (λ k. get_or whole.memories k other) to ∙ memory-new one front model sees drives m any other lt
            ∙ memory-agree (numbers_behind one model) (in_whole (globals_behind one model) []) (get_or model.memories m any) (record { readers = λ k d low. (refl, refl, refl); writers = λ k d low. (refl, refl, refl, refl) })
            (record { readers = λ k d low. sym (every_tick (get_or (get_or model.memories m any).readers k d).clock); writers = λ k d low. sym (every_tick (get_or (get_or model.memories m any).writers k d).clock) });
        below = λ any. subst (λ n. MemoryBelow n (get_or model.memories m any)) (sym long-globals) (memory-below model formed m any lt);
        clocked = λ any. subst (λ n. IsClockedMemory n (get_or model.memories m any)) none (formed.memory_clocks m any lt);
        given = λ r place inside. not-input model m r place formed lt inside;
      }

  pub model-part : IsPart (joined one front model sees drives) (placed front model) (globals_behind one model) (held_behind one model) (memories_behind one model) []
  model-part =
      record {
        count = sym long-globals;
        within = λ i lt. (let low : i < length model.signals = omega (arith, lt, long-globals) in let to = at i low in omega (arith, to, low, long one front model sees drives));
        once = behind-once (length one.signals) (length model.signals);
        paths = ext_get_or [] (map (λ path. front ++ path) model.paths) (map (path_at whole.paths) (globals_behind one model)) (length-map model.paths (λ path. front ++ path) ∙ formed.named ∙ sym (length-map-range_with_len (path_at whole.paths) (length one.signals) (length model.signals))) (λ i lt.
            let inside : i < length model.paths = omega (arith, lt, length-map model.paths (λ path. front ++ path)) in
            let low : i < length model.signals = omega (arith, inside, formed.named) in
            get_or-map (λ path. front ++ path) model.paths i [] [] inside
            ∙ sym (path-new one front model sees drives i inside)
            ∙ ap (λ n. path_at whole.paths (n + i)) named
            ∙ sym (get_or-map-range_with_len (path_at whole.paths) (length one.signals) (length model.signals) i (length one.signals + i) [] low refl));
        types = ext_get_or (uint 0) (signal_shapes model) (map (shape_at (signal_shapes whole)) (globals_behind one model)) (length-map model.signals (λ (signal : Signal). shape signal.ty) ∙ sym (length-map-range_with_len (shape_at (signal_shapes whole)) (length one.signals) (length model.signals))) (λ i lt.
            let low : i < length model.signals = omega (arith, lt, length-map model.signals (λ (signal : Signal). shape signal.ty)) in
            sym (shape-new one front model sees drives i low)
            ∙ sym (get_or-map-range_with_len (shape_at (signal_shapes whole)) (length one.signals) (length model.signals) i (length one.signals + i) (uint 0) low refl));
        drivers = λ i lt.
            let low : i < length model.signals = omega (arith, lt, long-globals) in
            let any = some-item model.signals i low in
            subst (λ outer. IsFrom model.ins (globals_behind one model) (held_behind one model) (memories_behind one model) i outer (driver_at model i)) (sym (ap (driver_at whole) (at i low) ∙ driver-new one front model sees drives i any low))
            (from-model i (get_or model.signals i any).ty (driver_at model i) low refl (formed.drivers i low));
        ins = λ place lt. (let to = formed.ins place lt in let low = to.0 in (omega (arith, low, long-globals), to.1));
        outs = λ place lt. (let low = formed.outs place lt in omega (arith, low, long-globals));
        clock_count = none;
        register_count = sym long-held;
        register_from = λ r lt. register-model r (omega (arith, lt, long-held));
        memory_count = sym long-memories;
        memories_once = behind-once (length one.memories) (length model.memories);
        memory_from = λ m lt. memory-model m (omega (arith, lt, long-memories));
      }
