-- A part of a circuit is a part at another place too, if what stands there is the same with other numbers.
use Rattle.std.proofs.Common.{◌≡◌, ◌≢◌, ℕ, suc, ◌<◌, List, [], ◌∷◌, length, map, Option, refl, sym, ap, ap₂, ◌∙◌, subst, arith}
use Rattle.std.specs.Prelude.{slice_index_or}
use Rattle.std.proofs.lemmas.List.{length-map, get_or-map}
use Rattle.std.proofs.lemmas.Simd.{map-map}
use Rattle.gg_flat.specs.declared.line.Node.{Node}
use Rattle.gg_flat.specs.declared.memory.Memory.{Memory}
use Rattle.gg_flat.specs.declared.piece.Driver.{Driver}
use Rattle.gg_flat.specs.declared.piece.Driver.TheVariants.{Input, Held, MemoryWord, ReadRegister, Computed}
use Rattle.gg_flat.specs.declared.piece.Register.{Register}
use Rattle.gg_flat.specs.Circuit.{FlatCircuit, signal_shapes, driver_at}
use Rattle.gg_flat.specs.Line.{shape_at, value_at}
use Rattle.gg_flat.specs.Renaming.{Renaming, signals_by, numbers_by, renamed_driver, renamed_line, renamed_memory, renamed_register}
use Rattle.gg_flat.specs.inside.Renaming.{one_by_one}
use Rattle.gg_flat.proofs.RenamedLineLaws.{line-agree, line-twice}
use Rattle.gg_flat.proofs.RenamedLaws.{AgreeAt, AgreeOn, register-agree, register-twice, memory-agree, memory-twice, memory-weaken, follows-each}
use Rattle.gg_part.specs.inside.StandsAgain.{StandsAgain, placed_at}
use Rattle.gg_part.specs.Part.{IsPart, IsFrom, in_whole, NamesBelow, RegisterBelow, MemoryBelow}

value-map : (f : ℕ → ℕ) (xs : List ℕ) (k : ℕ) → k < length xs → value_at (map f xs) k ≡ f (value_at xs k)
value-map f xs k lt = get_or-map f xs k 0 0 lt

module _ (f : ℕ → ℕ) (globals : List ℕ) (clocks : List (Option ℕ)) where
  pub line-moved : (line : List Node) → NamesBelow (length globals) line → renamed_line (value_at (map f globals)) line ≡ renamed_line f (renamed_line (value_at globals) line)
  line-moved line below =
      line-agree (value_at (map f globals)) (λ s. f (value_at globals s)) line (λ s named. value-map f globals s (below s named))
      ∙ sym (line-twice (value_at globals) f line)

  pub register-moved : (r : Register) → RegisterBelow (length globals) r → renamed_register (in_whole (map f globals) clocks) r ≡ renamed_register (signals_by f) (renamed_register (in_whole globals clocks) r)
  register-moved r below =
      register-agree (in_whole (map f globals) clocks) (one_by_one (in_whole globals clocks) (signals_by f)) r (λ s named. value-map f globals s (below s named)) refl
      ∙ sym (register-twice (in_whole globals clocks) (signals_by f) r)

  pub memory-moved : (m : Memory) → MemoryBelow (length globals) m → renamed_memory (in_whole (map f globals) clocks) m ≡ renamed_memory (signals_by f) (renamed_memory (in_whole globals clocks) m)
  memory-moved m below =
      let by : Renaming = in_whole (map f globals) clocks in
      let other : Renaming = one_by_one (in_whole globals clocks) (signals_by f) in
      memory-agree by other m (memory-weaken (λ s. s < length globals) (AgreeAt by other) m (value-map f globals) below) (follows-each (AgreeOn by other) m (λ clock. refl))
      ∙ sym (memory-twice (in_whole globals clocks) (signals_by f) m)

-- ---- the part

module _ (whole part : FlatCircuit) (globals held memories : List ℕ) (f rf mf : ℕ → ℕ) where
  -- a driver's counterpart gives the driver of the part too
  pub from-moved : (s : ℕ) → s < length globals → (((place : ℕ) → driver_at part s ≢ Input place) → driver_at whole (f (value_at globals s)) ≡ renamed_driver (numbers_by f rf mf) (driver_at whole (value_at globals s))) → (d : Driver) → driver_at part s ≡ d → IsFrom part.ins globals held memories s (driver_at whole (value_at globals s)) d
      → IsFrom part.ins (map f globals) (map rf held) (map mf memories) s (driver_at whole (value_at (map f globals) s)) d
  from-moved s lt again (Input place) e h = h
  from-moved s lt again (Held r) e h =
      let n : length (map rf held) ≡ length held = length-map held rf in
      let there = again (λ place i. let c : Held r ≡ Input place = sym e ∙ i in cc) in
      (omega (arith, h.0, n), ap (driver_at whole) (value-map f globals s lt) ∙ there ∙ ap (renamed_driver (numbers_by f rf mf)) h.1 ∙ ap Held (sym (value-map rf held r h.0)))
  from-moved s lt again (MemoryWord m r a b) e h =
      let there = again (λ place i. let c : MemoryWord m r a b ≡ Input place = sym e ∙ i in cc) in (
        omega (arith, h.0, length-map memories mf),
        omega (arith, h.1, length-map globals f),
        omega (arith, h.2, length-map globals f),
        ap (driver_at whole) (value-map f globals s lt) ∙ there ∙ ap (renamed_driver (numbers_by f rf mf)) h.3
            ∙ ap (λ k. MemoryWord k r (f (value_at globals a)) (f (value_at globals b))) (sym (value-map mf memories m h.0))
            ∙ ap₂ (λ x y. MemoryWord (value_at (map mf memories) m) r x y) (sym (value-map f globals a h.1)) (sym (value-map f globals b h.2)),
      )
  from-moved s lt again (ReadRegister m r) e h =
      let there = again (λ place i. let c : ReadRegister m r ≡ Input place = sym e ∙ i in cc) in
      (omega (arith, h.0, length-map memories mf), ap (driver_at whole) (value-map f globals s lt) ∙ there ∙ ap (renamed_driver (numbers_by f rf mf)) h.1 ∙ ap (λ k. ReadRegister k r) (sym (value-map mf memories m h.0)))
  from-moved s lt again (Computed line) e h =
      let there = again (λ place i. let c : Computed line ≡ Input place = sym e ∙ i in cc) in (
        λ t n. omega (arith, h.0 t n, length-map globals f),
        ap (driver_at whole) (value-map f globals s lt) ∙ there ∙ ap (renamed_driver (numbers_by f rf mf)) h.1 ∙ ap Computed (sym (line-moved f globals [] line h.0)),
      )

module _ (whole part : FlatCircuit) (globals held memories : List ℕ) (clocks : List (Option ℕ)) (f rf mf : ℕ → ℕ) (is : IsPart whole part globals held memories clocks) (again : StandsAgain whole part globals held memories f rf mf) where
  -- the same part stands where the numbers lead
  pub part-moved : IsPart whole (placed_at whole part (map f globals)) (map f globals) (map rf held) (map mf memories) clocks
  part-moved = record {
    count = is.count ∙ sym (length-map globals f);
    within = λ s lt. let lt' : s < length globals = omega (arith, lt, length-map globals f) in subst (λ (k : ℕ). k < length whole.signals) (sym (value-map f globals s lt')) (again.within s lt');
    once = again.once;
    paths = refl;
    types =
        is.types
        ∙ shapes-at globals (λ s lt. sym (again.shapes s lt))
        ∙ sym (map-map (shape_at (signal_shapes whole)) f globals);
    drivers = λ s lt. let lt' : s < length globals = omega (arith, lt, length-map globals f) in from-moved whole part globals held memories f rf mf s lt' (again.drivers s lt') (driver_at part s) refl (is.drivers s lt');
    ins = λ place lt. let h = is.ins place lt in (omega (arith, h.0, length-map globals f), h.1);
    outs = λ place lt. omega (arith, is.outs place lt, length-map globals f);
    clock_count = is.clock_count;
    register_count = is.register_count ∙ sym (length-map held rf);
    register_from = λ r lt.
        let lt' : r < length held = omega (arith, lt, length-map held rf) in
        let h = is.register_from r lt' in
        let k = again.register r lt' in
        record {
          within = subst (λ (n : ℕ). n < length whole.registers) (sym (value-map rf held r lt')) k.within;
          is = λ any other.
              ap (λ (n : ℕ). slice_index_or whole.registers n other) (value-map rf held r lt')
              ∙ k.is other ∙ ap (renamed_register (signals_by f)) (h.is any other) ∙ sym (register-moved f globals clocks (slice_index_or part.registers r any) (h.below any));
          below = λ any t n. omega (arith, h.below any t n, length-map globals f);
          clocked = h.clocked;
        };
    memory_count = is.memory_count ∙ sym (length-map memories mf);
    memories_once = again.memories_once;
    memory_from = λ m lt.
        let lt' : m < length memories = omega (arith, lt, length-map memories mf) in
        let h = is.memory_from m lt' in
        let k = again.memory m lt' in
        record {
          within = subst (λ (n : ℕ). n < length whole.memories) (sym (value-map mf memories m lt')) k.within;
          is = λ any other.
              ap (λ (n : ℕ). slice_index_or whole.memories n other) (value-map mf memories m lt')
              ∙ k.is other ∙ ap (renamed_memory (signals_by f)) (h.is any other) ∙ sym (memory-moved f globals clocks (slice_index_or part.memories m any) (h.below any));
          below = λ any. subst (λ (n : ℕ). MemoryBelow n (slice_index_or part.memories m any)) (sym (length-map globals f)) (h.below any);
          clocked = h.clocked;
          given = h.given;
        };
  }
    where
      shapes-at : (xs : List ℕ) → ((s : ℕ) → s < length xs → shape_at (signal_shapes whole) (value_at xs s) ≡ shape_at (signal_shapes whole) (f (value_at xs s))) → map (shape_at (signal_shapes whole)) xs ≡ map (λ x. shape_at (signal_shapes whole) (f x)) xs
      shapes-at [] h = refl
      shapes-at (x ∷ xs) h = ap₂ (λ y ys. y ∷ ys) (h 0 (omega arith)) (shapes-at xs (λ s lt. h (suc s) (omega (arith, lt))))
