-- Who names what may be told in two ways that make one reference circuit.
use Rattle.std.proofs.Common.{◌≡◌, ℕ, zero, suc, ◌+◌, ◌<◌, List, [], ◌∷◌, ◌++◌, length, map, get_or, slice_get, refl, sym, ◌∙◌, ap, ap₂, subst, arith}
use Rattle.std.specs.Prelude.{Bool, Some, cond, codes, filter, flat_map, Contains}
use Rattle.std.specs.List.{range_with_len}
use Rattle.std.proofs.lemmas.List.{get_or-map}
use Rattle.std.proofs.lemmas.List.Elements.{Contains-append_left, Contains-append_right, Contains-get_or}
use Rattle.std.proofs.lemmas.Option.{slice_get-get_or}
use Rattle.gg_flat.specs.declared.memory.Reader.{Reader}
use Rattle.gg_flat.specs.declared.memory.Writer.{Writer}
use Rattle.gg_flat.specs.declared.memory.Memory.{Memory}
use Rattle.gg_flat.specs.declared.piece.Signal.{Signal}
use Rattle.gg_flat.specs.declared.piece.Register.{Register}
use Rattle.gg_flat.specs.declared.piece.Driver.{Driver}
use Rattle.gg_flat.specs.declared.piece.Driver.TheVariants.{Input}
use Rattle.gg_flat.specs.Circuit.{FlatCircuit, driver_at}
use Rattle.gg_flat.specs.Reads.{NamesSignal, RegisterNames}
use Rattle.gg_flat_tree.specs.Scoped.{memory_fields, reader_fields, writer_fields}
use Rattle.gg_flat_tree.specs.Tree.{path_at}
use Rattle.gg_flat.proofs.ListLemmas.{map-same}
use Rattle.gg_cut_split.proofs.ClosedLemmas.ListLemmas.{flattened-in, flat_map-is}
use Rattle.gg_flat.specs.Line.{value_at}
use Rattle.gg_flat.specs.Renaming.{signals_by, renamed_driver, renamed_memory, renamed_register}
use Rattle.gg_flat.proofs.RenamedLaws as things
use Rattle.gg_cut_reference.specs.Reference.{Views}
use Rattle.gg_cut_reference.specs.Made.{seen_signal, pipe_signals, pipe_registers, reference_of}
use Rattle.gg_bits.specs.Lists.{by_number}

-- The two say the same of what the signals, the registers and the memories of a circuit name.
pub record AreAgreed (one : FlatCircuit) (mine views : Views) : Type 0 where
  pub maker : (s t : ℕ) → s < length one.signals → NamesSignal (driver_at one s) t → mine.seen (mine.maker s) t ≡ views.seen (views.maker s) t
  pub holder : (r t : ℕ) (register : Register) → r < length one.registers → slice_get one.registers r ≡ Some register → RegisterNames register t → mine.seen (mine.holder r) t ≡ views.seen (views.holder r) t
  pub keeper : (m t : ℕ) → m < length one.memories → Contains (memory_fields one m) t → mine.seen (mine.keeper m) t ≡ views.seen (views.keeper m) t
  pub kept : (t : ℕ) → mine.kept t ≡ views.kept t

-- two choices of numbers that agree
pub filter-agree : (f g : ℕ → Bool) (a n : ℕ) → ((k : ℕ) → k < a + n → f k ≡ g k) → filter f (range_with_len a n) ≡ filter g (range_with_len a n)
filter-agree f g a zero same = refl
filter-agree f g a (suc n) same = ap₂ (λ b l. cond b (a ∷ l) l) (same a (omega arith)) (filter-agree f g (a + 1) n (λ k lt. same k (omega arith)))

-- ---- names that agree

module _ (to other : ℕ → ℕ) where
  register-agree : (register : Register) → ((t : ℕ) → RegisterNames register t → to t ≡ other t) → renamed_register (signals_by to) register ≡ renamed_register (signals_by other) register
  register-agree register same = things.register-agree (signals_by to) (signals_by other) register same refl

  memory-agree : (memory : Memory) → ((t : ℕ) → Contains (flat_map (λ reader. reader_fields reader) memory.readers ++ flat_map (λ writer. writer_fields writer) memory.writers) t → to t ≡ other t) → renamed_memory (signals_by to) memory ≡ renamed_memory (signals_by other) memory
  memory-agree memory same =
      things.memory-agree (signals_by to) (signals_by other) memory
      (record {
        readers = λ k d lt.
            let at : (i : ℕ) → i < 3 → to (value_at (reader_fields (get_or memory.readers k d)) i) ≡ other (value_at (reader_fields (get_or memory.readers k d)) i) = λ i low. same _ (read k d lt i low) in
            (at 0 (omega arith), at 1 (omega arith), at 2 (omega arith));
        writers = λ k d lt.
            let at : (i : ℕ) → i < 4 → to (value_at (writer_fields (get_or memory.writers k d)) i) ≡ other (value_at (writer_fields (get_or memory.writers k d)) i) = λ i low. same _ (written k d lt i low) in
            (at 0 (omega arith), at 1 (omega arith), at 2 (omega arith), at 3 (omega arith));
      })
      (record { readers = λ k d lt. refl; writers = λ k d lt. refl })
    where
      reads : List ℕ
      reads = flat_map (λ reader. reader_fields reader) memory.readers

      writes : List ℕ
      writes = flat_map (λ writer. writer_fields writer) memory.writers

      read : (k : ℕ) (d : Reader) → k < length memory.readers → (i : ℕ) → i < 3 → Contains (reads ++ writes) (value_at (reader_fields (get_or memory.readers k d)) i)
      read k d lt i low =
          let t = value_at (reader_fields (get_or memory.readers k d)) i in
          Contains-append_left reads writes t
          (subst (λ (l : List ℕ). Contains l t) (sym (flat_map-is (λ (reader : Reader). reader_fields reader) memory.readers)) (flattened-in (λ (reader : Reader). reader_fields reader) memory.readers k d t lt (Contains-get_or (reader_fields (get_or memory.readers k d)) i 0 low)))

      written : (k : ℕ) (d : Writer) → k < length memory.writers → (i : ℕ) → i < 4 → Contains (reads ++ writes) (value_at (writer_fields (get_or memory.writers k d)) i)
      written k d lt i low =
          let t = value_at (writer_fields (get_or memory.writers k d)) i in
          Contains-append_right reads writes t
          (subst (λ (l : List ℕ). Contains l t) (sym (flat_map-is (λ (writer : Writer). writer_fields writer) memory.writers)) (flattened-in (λ (writer : Writer). writer_fields writer) memory.writers k d t lt (Contains-get_or (writer_fields (get_or memory.writers k d)) i 0 low)))

  driver-agree : (driver : Driver) → ((t : ℕ) → NamesSignal driver t → to t ≡ other t) → renamed_driver (signals_by to) driver ≡ renamed_driver (signals_by other) driver
  driver-agree driver same = things.driver-agree (signals_by to) (signals_by other) driver same (λ r named. refl) (λ m named. refl)

-- ---- the circuit

numbers-agree : {A B : Type 0} (f g : ℕ → A → B) (n : ℕ) (xs : List A) → ((i : ℕ) (d : A) → i < length xs → f (n + i) (get_or xs i d) ≡ g (n + i) (get_or xs i d)) → by_number f n xs ≡ by_number g n xs
numbers-agree f g n [] same = refl
numbers-agree f g n (x ∷ xs) same =
    ap₂ (λ y ys. y ∷ ys) (subst (λ k. f k x ≡ g k x) (let here : n + 0 ≡ n = omega arith in here) (same 0 x (omega arith)))
    (numbers-agree f g (suc n) xs (λ i d lt. subst (λ k. f k (get_or xs i d) ≡ g k (get_or xs i d)) (let next : n + suc i ≡ suc n + i = omega arith in next) (same (suc i) d (omega (arith, lt)))))

first-agree : {A B : Type 0} (f g : ℕ → A → B) (xs : List A) → ((i : ℕ) (d : A) → i < length xs → f i (get_or xs i d) ≡ g i (get_or xs i d)) → by_number f 0 xs ≡ by_number g 0 xs
first-agree f g xs same = numbers-agree f g 0 xs (λ i d lt. subst (λ k. f k (get_or xs i d) ≡ g k (get_or xs i d)) (let here : i ≡ 0 + i = omega arith in here) (same i d lt))

module _ (one : FlatCircuit) (mine views : Views) (pipes : List ℕ) (same : AreAgreed one mine views) where
  signal-agree : (s : ℕ) (d : Signal) → s < length one.signals → seen_signal mine s (get_or one.signals s d) ≡ seen_signal views s (get_or one.signals s d)
  signal-agree s d lt =
      let signal = get_or one.signals s d in
      ap (λ driver. let seen : Signal = record { ty = signal.ty; driver = driver } in seen)
      (driver-agree (mine.seen (mine.maker s)) (views.seen (views.maker s)) signal.driver (λ t named. same.maker s t lt
      (subst (λ driver. NamesSignal driver t) (sym (get_or-map (λ (x : Signal). x.driver) one.signals s d (Input 0) lt)) named)))

  held-agree : (r : ℕ) (d : Register) → r < length one.registers → renamed_register (signals_by (mine.seen (mine.holder r))) (get_or one.registers r d) ≡ renamed_register (signals_by (views.seen (views.holder r))) (get_or one.registers r d)
  held-agree r d lt =
      register-agree (mine.seen (mine.holder r)) (views.seen (views.holder r)) (get_or one.registers r d) (λ t named. same.holder r t (get_or one.registers r d) lt (slice_get-get_or one.registers r d lt) named)

  kept-agree : (m : ℕ) (d : Memory) → m < length one.memories → renamed_memory (signals_by (mine.seen (mine.keeper m))) (get_or one.memories m d) ≡ renamed_memory (signals_by (views.seen (views.keeper m))) (get_or one.memories m d)
  kept-agree m d lt =
      memory-agree (mine.seen (mine.keeper m)) (views.seen (views.keeper m)) (get_or one.memories m d) (λ t h. same.keeper m t lt
      (subst (λ (l : List ℕ). Contains l t)
      (ap₂ (λ readers writers. flat_map (λ reader. reader_fields reader) readers ++ flat_map (λ writer. writer_fields writer) writers)
      (sym (get_or-map (λ (memory : Memory). memory.readers) one.memories m d [] lt)) (sym (get_or-map (λ (memory : Memory). memory.writers) one.memories m d [] lt)))
      h))

  pub reference-agree : reference_of one mine pipes ≡ reference_of one views pipes
  reference-agree =
      ap₂ (λ signals registers.
      let all : FlatCircuit = record { paths = paths; signals = signals ++ pipe_signals one.signals (length one.registers) pipes; registers = registers ++ pipe_registers one.signals pipes; memories = by_number (λ m memory. renamed_memory (signals_by (mine.seen (mine.keeper m))) memory) 0 one.memories; ins = one.ins; outs = map mine.kept one.outs; clocks = one.clocks } in all)
      (first-agree (seen_signal mine) (seen_signal views) one.signals signal-agree)
      (first-agree (λ r register. renamed_register (signals_by (mine.seen (mine.holder r))) register) (λ r register. renamed_register (signals_by (views.seen (views.holder r))) register) one.registers held-agree)
      ∙ ap₂ (λ memories outs.
      let all : FlatCircuit = record { paths = paths; signals = by_number (seen_signal views) 0 one.signals ++ pipe_signals one.signals (length one.registers) pipes; registers = by_number (λ r register. renamed_register (signals_by (views.seen (views.holder r))) register) 0 one.registers ++ pipe_registers one.signals pipes; memories = memories; ins = one.ins; outs = outs; clocks = one.clocks } in all)
      (first-agree (λ m memory. renamed_memory (signals_by (mine.seen (mine.keeper m))) memory) (λ m memory. renamed_memory (signals_by (views.seen (views.keeper m))) memory) one.memories kept-agree)
      (map-same mine.kept views.kept one.outs same.kept)
    where
      paths : List (List ℕ)
      paths = one.paths ++ map (λ c. codes "pipe:" ++ path_at one.paths c) pipes
