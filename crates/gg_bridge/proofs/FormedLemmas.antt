-- The circuit with a model is well formed.
use Rattle.std.proofs.Common.{◌≡◌, ◌≢◌, ℕ, zero, suc, ◌+◌, ◌-◌, ◌<◌, ◌≤◌, List, [], ◌++◌, length, map, get_or, Option, Some, None, refl, sym, ◌∙◌, ap, ap₂, subst, inl, inr, ◌⊎◌, arith}
use Rattle.std.specs.Prelude.{unwrap_or, Contains, AllPairs}
use Rattle.std.specs.List.{range_with_len}
use Rattle.std.proofs.lemmas.Bool.{cases_lt}
use Rattle.std.proofs.lemmas.List.{get_or-map, get_or_default, length-append, length-map, append_cancel_left}
use Rattle.std.proofs.lemmas.List.Elements.{Contains-get_or}
use Rattle.std.proofs.lemmas.List.FromFn.{length-range_with_len}
use Rattle.gg_bits.specs.Shape.{Shape, shape, uint}
use Rattle.gg_bits.specs.declared.types.Ty.{Ty}
use Rattle.gg_flat.specs.declared.piece.Signal.{Signal}
use Rattle.gg_flat.specs.declared.piece.Register.{Register}
use Rattle.gg_flat.specs.declared.piece.Driver.{Driver}
use Rattle.gg_flat.specs.declared.piece.Driver.TheVariants.{Input, Held, MemoryWord, ReadRegister, Computed}
use Rattle.gg_flat.specs.declared.memory.Memory.{Memory}
use Rattle.gg_flat_tree.specs.Clocked.{clocks_from}
use Rattle.gg_flat.specs.Line.{value_at, shape_at, shapes_of, op_at, HasShape, HasType, IsSource}
use Rattle.gg_flat.specs.Circuit.{FlatCircuit, signal_shapes, driver_at, readers_at, latency_at}
use Rattle.gg_flat_tree.specs.Tree.{path_at}
use Rattle.gg_flat.specs.WellFormed.{IsWellFormed, MayDrive, IsRegister, IsMemory, IsClock, IsClockedMemory, AreDriven}
use Rattle.gg_flat.proofs.ListLemmas.{some-item}
use Rattle.gg_part.specs.Part.{IsPart}
use Rattle.gg_bridge.specs.Joined.{place_among, without, globals_behind, held_behind, memories_behind, copy_line, driver_behind, joined}
use Rattle.gg_bridge.specs.inside.Joined.{linked_driver, placed, CanJoin}
use Rattle.gg_bridge.proofs.ClockLemmas.{own-among, none-among}
use Rattle.gg_bridge.proofs.NumberLemmas.{Tells, place-tells, place-is, place-of, behind, behind-first, left-is, left-in, left-once}
use Rattle.gg_bridge.proofs.AtLemmas.{long, many, banks, shape-old, shape-new, driver-old, driver-new, path-old, path-new}
use Rattle.gg_bridge.proofs.PartLemmas.{front-part, model-part}
use Rattle.gg_bridge.proofs.LiftLemmas.{lift-driver, lift-register, lift-register-clock, lift-memory, lift-memory-clocks, lift-reads}

-- a bare reference to a signal of the same type may be connected
pub copy-source : (circuit : FlatCircuit) (sink : Shape) (ty : Ty) (t : ℕ) → HasType (signal_shapes circuit) t (shape ty) → shape ty ≡ sink → IsSource (HasType (signal_shapes circuit)) sink (copy_line ty t)
copy-source circuit sink ty t typed same =
    record {
      line = record { some = omega arith; typed = λ k lt. by k lt };
      kind = ap (λ (sh : Shape). sh.kind) same;
      width = (let e = ap (λ (sh : Shape). sh.width) same in omega (arith, e));
    }
  where
    by : (k : ℕ) → k < 1 → HasShape (HasType (signal_shapes circuit)) (shapes_of (copy_line ty t)) k (shape_at (shapes_of (copy_line ty t)) k) (op_at (copy_line ty t) k)
    by zero lt = typed
    by (suc k) lt = absurd (omega (arith, lt))

-- each in-signal is listed once
pub ins-apart : (circuit : FlatCircuit) → IsWellFormed circuit → AllPairs (λ a b. a ≢ b) circuit.ins
ins-apart circuit formed i j d less lt same =
    let low : i < length circuit.ins = omega (arith, less, lt) in
    let a = formed.ins i low in
    let b = formed.ins j lt in
    let e : value_at circuit.ins i ≡ value_at circuit.ins j = get_or_default circuit.ins i 0 d low ∙ same ∙ get_or_default circuit.ins j d 0 lt in
    number i j (sym a.1 ∙ ap (driver_at circuit) e ∙ b.1) less
  where
    number : (i j : ℕ) → Input i ≡ Input j → i < j → ⊥
    number i j e less = let same : i ≡ j = cc in omega (arith, same, less)

-- a model with other paths
pub placed-formed : (front : List ℕ) (model : FlatCircuit) → IsWellFormed model → IsWellFormed (placed front model)
placed-formed front model formed =
    record {
      named = length-map model.paths (λ path. front ++ path) ∙ formed.named;
      distinct = λ i j d less lt same.
          let second : j < length model.paths = omega (arith, lt, length-map model.paths (λ path. front ++ path)) in
          let first : i < length model.paths = omega (arith, less, second) in
          formed.distinct i j [] less second
          (append_cancel_left front (get_or model.paths i []) (get_or model.paths j [])
          (sym (get_or-map (λ path. front ++ path) model.paths i [] d first) ∙ same ∙ get_or-map (λ path. front ++ path) model.paths j [] d second));
      drivers = formed.drivers;
      ins = formed.ins;
      outs = formed.outs;
      registers = formed.registers;
      memories = formed.memories;
      reads = formed.reads;
      register_clocks = formed.register_clocks;
      memory_clocks = formed.memory_clocks;
    }

module _ (one : FlatCircuit) (front : List ℕ) (model : FlatCircuit) (sees drives : List ℕ) (can : CanJoin one front model sees drives) (formed : IsWellFormed one) (formed-model : IsWellFormed model) (none : model.clocks ≡ 0) where
  abbrev all : FlatCircuit
  all = joined one front model sees drives

  abbrev left : List ℕ
  left = without drives one.ins

  abbrev outs : List ℕ
  outs = map (value_at (globals_behind one model)) model.outs

  first : IsPart (joined one front model sees drives) one (range_with_len 0 (length one.signals)) (range_with_len 0 (length one.registers)) (range_with_len 0 (length one.memories)) (clocks_from 0 one.clocks)
  first = front-part one front model sees drives can formed

  second : IsPart (joined one front model sees drives) (placed front model) (globals_behind one model) (held_behind one model) (memories_behind one model) []
  second = model-part one front model sees drives formed.named formed-model none

  model-formed : IsWellFormed (placed front model)
  model-formed = placed-formed front model formed-model

  count : length (signal_shapes (joined one front model sees drives)) ≡ length one.signals + length model.signals
  count = length-map (joined one front model sees drives).signals (λ signal. shape signal.ty) ∙ long one front model sees drives

  -- ---- the links

  type-of : (circuit : FlatCircuit) (s : ℕ) (any : Signal) → s < length circuit.signals → shape (get_or circuit.signals s any).ty ≡ shape_at (signal_shapes circuit) s
  type-of circuit s any lt = sym (get_or-map (λ (signal : Signal). shape signal.ty) circuit.signals s any (uint 0) lt)

  -- what the model gives behind the circuit
  out-at : (i : ℕ) → i < length model.outs → value_at (map (value_at (globals_behind one model)) model.outs) i ≡ length one.signals + value_at model.outs i
  out-at i lt = get_or-map (value_at (globals_behind one model)) model.outs i 0 0 lt ∙ behind (length one.signals) (length model.signals) (value_at model.outs i) (formed-model.outs i lt)

  pub driven-typed : (s i : ℕ) (any : Signal) → s < length one.signals → i < length drives → value_at drives i ≡ s
      → HasType (signal_shapes (joined one front model sees drives)) (value_at (map (value_at (globals_behind one model)) model.outs) i) (shape (get_or one.signals s any).ty)
  driven-typed s i any lt low is =
      let inside : i < length model.outs = omega (arith, low, can.driven_count) in
      let at = out-at i inside in
      let known = formed-model.outs i inside in (
        omega (arith, at, known, count),
        ap (shape_at (signal_shapes all)) at ∙ shape-new one front model sees drives (value_at model.outs i) known ∙ sym (can.driven_type i low) ∙ ap (shape_at (signal_shapes one)) is ∙ sym (type-of one s any lt),
      )

  pub seen-typed : (i place : ℕ) (any : Signal) → i < length model.signals → place < length model.ins → value_at model.ins place ≡ i
      → HasType (signal_shapes (joined one front model sees drives)) (value_at sees place) (shape (get_or model.signals i any).ty)
  seen-typed i place any lt low is =
      let inside : place < length sees = omega (arith, low, can.seen_count) in
      let known = can.seen place inside in (
        omega (arith, known, count),
        shape-old one front model sees drives (value_at sees place) known ∙ can.seen_type place inside ∙ ap (shape_at (signal_shapes model)) is ∙ sym (type-of model i any lt),
      )

  -- ---- drivers

  lifted : (s : ℕ) → s < length one.signals → ((place : ℕ) → driver_at one s ≢ Input place) → MayDrive (joined one front model sees drives) s (driver_at (joined one front model sees drives) s)
  lifted s lt other =
      let same = behind-first (length one.signals) s lt in
      subst (λ k. MayDrive all k (driver_at all k)) same (lift-driver all one (range_with_len 0 (length one.signals)) (range_with_len 0 (length one.registers)) (range_with_len 0 (length one.memories)) (clocks_from 0 one.clocks) first formed s (omega (arith, lt, length-range_with_len 0 (length one.signals))) other)

  raised : (i : ℕ) → i < length model.signals → ((place : ℕ) → driver_at model i ≢ Input place) → MayDrive (joined one front model sees drives) (length one.signals + i) (driver_at (joined one front model sees drives) (length one.signals + i))
  raised i lt other =
      let to = behind (length one.signals) (length model.signals) i lt in
      subst (λ k. MayDrive all k (driver_at all k)) to (lift-driver all (placed front model) (globals_behind one model) (held_behind one model) (memories_behind one model) [] second model-formed i (omega (arith, lt, length-range_with_len (length one.signals) (length model.signals))) other)

  old-driver : (s : ℕ) (any : Signal) (driver : Driver) (o : Option ℕ) → s < length one.signals → driver_at one s ≡ driver → MayDrive one s driver → Tells drives s o
      → driver_at all s ≡ linked_driver outs left s (get_or one.signals s any).ty driver o
      → MayDrive all s (driver_at all s)
  old-driver s any driver (Some i) lt e may t is =
      subst (MayDrive all s) (sym is)
      (copy-source all (shape_at (signal_shapes all) s) (get_or one.signals s any).ty (value_at outs i) (driven-typed s i any lt t.0 t.1) (type-of one s any lt ∙ sym (shape-old one front model sees drives s lt)))
  old-driver s any (Input place) None lt e may t is =
      let there : Contains one.ins s = (place, may.0, get_or_default one.ins place s 0 may.0 ∙ may.1) in
      let at = place-of left s (left-in drives one.ins s there t) in
      subst (MayDrive all s) (sym is) (at.known, at.is)
  old-driver s any (Held register) None lt e may t is = lifted s lt (λ place same. (let clash = sym e ∙ same in cc))
  old-driver s any (MemoryWord memory reader addr en) None lt e may t is = lifted s lt (λ place same. (let clash = sym e ∙ same in cc))
  old-driver s any (ReadRegister memory reader) None lt e may t is = lifted s lt (λ place same. (let clash = sym e ∙ same in cc))
  old-driver s any (Computed line) None lt e may t is = lifted s lt (λ place same. (let clash = sym e ∙ same in cc))

  new-driver : (i : ℕ) (any : Signal) (driver : Driver) → i < length model.signals → driver_at model i ≡ driver → MayDrive model i driver
      → driver_at all (length one.signals + i) ≡ driver_behind (globals_behind one model) (held_behind one model) (memories_behind one model) sees (get_or model.signals i any).ty driver
      → MayDrive all (length one.signals + i) (driver_at all (length one.signals + i))
  new-driver i any (Input place) lt e may is =
      subst (MayDrive all (length one.signals + i)) (sym is)
      (copy-source all (shape_at (signal_shapes all) (length one.signals + i)) (get_or model.signals i any).ty (value_at sees place) (seen-typed i place any lt may.0 may.1) (type-of model i any lt ∙ sym (shape-new one front model sees drives i lt)))
  new-driver i any (Held register) lt e may is = raised i lt (λ place same. (let clash = sym e ∙ same in cc))
  new-driver i any (MemoryWord memory reader addr en) lt e may is = raised i lt (λ place same. (let clash = sym e ∙ same in cc))
  new-driver i any (ReadRegister memory reader) lt e may is = raised i lt (λ place same. (let clash = sym e ∙ same in cc))
  new-driver i any (Computed line) lt e may is = raised i lt (λ place same. (let clash = sym e ∙ same in cc))

  drivers : (s : ℕ) → s < length all.signals → (s < length one.signals) ⊎ (length one.signals ≤ s) → MayDrive all s (driver_at all s)
  drivers s lt (inl low) =
      let any = some-item one.signals s low in
      old-driver s any (driver_at one s) (place_among drives s) low refl (formed.drivers s low) (place-tells drives s) (driver-old one front model sees drives s any low)
  drivers s lt (inr high) =
      let i = s - length one.signals in
      let low : i < length model.signals = omega (arith, lt, high, long one front model sees drives) in
      let is : length one.signals + i ≡ s = omega (arith, high) in
      let any = some-item model.signals i low in
      subst (λ k. MayDrive all k (driver_at all k)) is (new-driver i any (driver_at model i) low refl (formed-model.drivers i low) (driver-new one front model sees drives i any low))

  -- ---- ports

  ins : (place : ℕ) → place < length left → (value_at left place < length all.signals) × (driver_at all (value_at left place) ≡ Input place)
  ins place lt =
      let s = value_at left place in
      let was = left-is drives one.ins s (Contains-get_or left place 0 lt) in
      let at = formed.ins was.among.0 was.among.1 in
      let is : value_at one.ins was.among.0 ≡ s = get_or_default one.ins was.among.0 0 s was.among.1 ∙ was.among.2 in
      let low : s < length one.signals = (let k = at.0 in omega (arith, k, is)) in
      let any = some-item one.signals s low in (
        omega (arith, low, long one front model sees drives),
        driver-old one front model sees drives s any low
            ∙ ap₂ (λ driver o. linked_driver outs left s (get_or one.signals s any).ty driver o) (ap (driver_at one) (sym is) ∙ at.1) (undriven s was.stays (place_among drives s) (place-tells drives s))
            ∙ ap (λ (o : Option ℕ). Input (unwrap_or o 0)) (place-is left place (left-once drives one.ins (ins-apart one formed)) lt),
      )
    where
      undriven : (s : ℕ) → (Contains drives s → ⊥) → (o : Option ℕ) → Tells drives s o → o ≡ None
      undriven s stays None t = refl
      undriven s stays (Some i) t = absurd (stays (i, t.0, get_or_default drives i s 0 t.0 ∙ t.1))

  outs-known : (place : ℕ) → place < length (without sees one.outs) → value_at (without sees one.outs) place < length all.signals
  outs-known place lt =
      let s = value_at (without sees one.outs) place in
      let was = (left-is sees one.outs s (Contains-get_or (without sees one.outs) place 0 lt)).among in
      let low = formed.outs was.0 was.1 in
      let is : value_at one.outs was.0 ≡ s = get_or_default one.outs was.0 0 s was.1 ∙ was.2 in
      omega (arith, low, is, long one front model sees drives)

  -- ---- paths

  named : length all.paths ≡ length all.signals
  named =
      let a = length-append one.paths (map (λ path. front ++ path) model.paths) in
      let b = length-map model.paths (λ path. front ++ path) in
      let c = long one front model sees drives in
      omega (arith, a, b, c, formed.named, formed-model.named)

  distinct : (i j : ℕ) (d : List ℕ) → i < j → j < length all.paths → get_or all.paths i d ≢ get_or all.paths j d
  distinct i j d less lt same =
      let total = length-append one.paths (map (λ path. front ++ path) model.paths) in
      let more = length-map model.paths (λ path. front ++ path) in
      let low : i < length all.paths = omega (arith, less, lt) in
      let e : path_at all.paths i ≡ path_at all.paths j = get_or_default all.paths i [] d low ∙ same ∙ get_or_default all.paths j d [] lt in
      by e (omega (arith, lt, total, more)) (cases_lt i (length one.paths)) (cases_lt j (length one.paths))
    where
      new-at : (k : ℕ) → length one.paths ≤ k → k < length one.paths + length model.paths → path_at all.paths k ≡ front ++ path_at model.paths (k - length one.paths)
      new-at k high inside =
          let back : length one.paths + (k - length one.paths) ≡ k = omega (arith, high) in
          ap (path_at all.paths) (sym back) ∙ path-new one front model sees drives (k - length one.paths) (omega (arith, high, inside))

      by : path_at all.paths i ≡ path_at all.paths j → j < length one.paths + length model.paths → (i < length one.paths) ⊎ (length one.paths ≤ i) → (j < length one.paths) ⊎ (length one.paths ≤ j) → ⊥
      by e inside (inl a) (inl b) = formed.distinct i j [] less b (sym (path-old one front model sees drives i a) ∙ e ∙ path-old one front model sees drives j b)
      by e inside (inl a) (inr b) =
          can.fresh i (j - length one.paths) (omega (arith, a, formed.named)) (omega (arith, b, inside, formed-model.named))
          (sym (path-old one front model sees drives i a) ∙ e ∙ new-at j b inside)
      by e inside (inr a) (inl b) = absurd (omega (arith, a, b, less))
      by e inside (inr a) (inr b) =
          let k = i - length one.paths in
          let l = j - length one.paths in
          formed-model.distinct k l [] (omega (arith, a, b, less)) (omega (arith, b, inside))
          (append_cancel_left front (path_at model.paths k) (path_at model.paths l) (sym (new-at i a (omega (arith, less, inside))) ∙ e ∙ new-at j b inside))

  -- ---- registers and memories

  module _ (P : Register → Type 0) (old : (r : ℕ) (any : Register) → r < length (range_with_len 0 (length one.registers)) → P (get_or (joined one front model sees drives).registers (value_at (range_with_len 0 (length one.registers)) r) any)) (new : (r : ℕ) (any : Register) → r < length (held_behind one model) → P (get_or (joined one front model sees drives).registers (value_at (held_behind one model) r) any)) where
    each-register : (r : ℕ) (any : Register) → r < length (joined one front model sees drives).registers → P (get_or (joined one front model sees drives).registers r any)
    each-register r any lt = by (cases_lt r (length one.registers))
      where
        by : (r < length one.registers) ⊎ (length one.registers ≤ r) → P (get_or all.registers r any)
        by (inl low) =
            subst (λ k. P (get_or all.registers k any)) (behind-first (length one.registers) r low) (old r any (omega (arith, low, length-range_with_len 0 (length one.registers))))
        by (inr high) =
            let k = r - length one.registers in
            let low : k < length model.registers = omega (arith, lt, high, many one front model sees drives) in
            let back : length one.registers + k ≡ r = omega (arith, high) in
            subst (λ n. P (get_or all.registers n any)) (behind (length one.registers) (length model.registers) k low ∙ back) (new k any (omega (arith, low, length-range_with_len (length one.registers) (length model.registers))))

  -- a memory of the circuit or of the model
  data Place (m : ℕ) : Type 0 where
    Old : (k : ℕ) → k < length (range_with_len 0 (length one.memories)) → value_at (range_with_len 0 (length one.memories)) k ≡ m → Place m
    New : (k : ℕ) → k < length (memories_behind one model) → value_at (memories_behind one model) k ≡ m → Place m

  place : (m : ℕ) → m < length all.memories → Place m
  place m lt = by (cases_lt m (length one.memories))
    where
      by : (m < length one.memories) ⊎ (length one.memories ≤ m) → Place m
      by (inl low) = Old m (omega (arith, low, length-range_with_len 0 (length one.memories))) (behind-first (length one.memories) m low)
      by (inr high) =
          let k = m - length one.memories in
          let low : k < length model.memories = omega (arith, lt, high, banks one front model sees drives) in
          let back : length one.memories + k ≡ m = omega (arith, high) in
          New k (omega (arith, low, length-range_with_len (length one.memories) (length model.memories))) (behind (length one.memories) (length model.memories) k low ∙ back)

  memory : (m : ℕ) (any : Memory) → Place m → IsMemory (HasType (signal_shapes all)) (get_or all.memories m any)
  memory m any (Old k lt is) = subst (λ n. IsMemory (HasType (signal_shapes all)) (get_or all.memories n any)) is (lift-memory all one (range_with_len 0 (length one.signals)) (range_with_len 0 (length one.registers)) (range_with_len 0 (length one.memories)) (clocks_from 0 one.clocks) first formed k any lt)
  memory m any (New k lt is) = subst (λ n. IsMemory (HasType (signal_shapes all)) (get_or all.memories n any)) is (lift-memory all (placed front model) (globals_behind one model) (held_behind one model) (memories_behind one model) [] second model-formed k any lt)

  memory-clocks : (m : ℕ) (any : Memory) → Place m → IsClockedMemory one.clocks (get_or all.memories m any)
  memory-clocks m any (Old k lt is) = subst (λ n. IsClockedMemory one.clocks (get_or all.memories n any)) is (lift-memory-clocks all one (range_with_len 0 (length one.signals)) (range_with_len 0 (length one.registers)) (range_with_len 0 (length one.memories)) (clocks_from 0 one.clocks) first (own-among one.clocks) k any lt)
  memory-clocks m any (New k lt is) = subst (λ n. IsClockedMemory one.clocks (get_or all.memories n any)) is (lift-memory-clocks all (placed front model) (globals_behind one model) (held_behind one model) (memories_behind one model) [] second (none-among one.clocks) k any lt)

  reads : (m : ℕ) → Place m → AreDriven (driver_at all) m (latency_at all m) (readers_at all m)
  reads m (Old k lt is) = subst (λ n. AreDriven (driver_at all) n (latency_at all n) (readers_at all n)) is (lift-reads all one (range_with_len 0 (length one.signals)) (range_with_len 0 (length one.registers)) (range_with_len 0 (length one.memories)) (clocks_from 0 one.clocks) first formed k lt)
  reads m (New k lt is) = subst (λ n. AreDriven (driver_at all) n (latency_at all n) (readers_at all n)) is (lift-reads all (placed front model) (globals_behind one model) (held_behind one model) (memories_behind one model) [] second model-formed k lt)

  pub whole-formed : IsWellFormed (joined one front model sees drives)
  whole-formed =
      record {
        named = named;
        distinct = distinct;
        drivers = λ s lt. drivers s lt (cases_lt s (length one.signals));
        ins = ins;
        outs = outs-known;
        registers = each-register (IsRegister (HasType (signal_shapes all)))
            (lift-register all one (range_with_len 0 (length one.signals)) (range_with_len 0 (length one.registers)) (range_with_len 0 (length one.memories)) (clocks_from 0 one.clocks) first formed)
            (lift-register all (placed front model) (globals_behind one model) (held_behind one model) (memories_behind one model) [] second model-formed);
        memories = λ m any lt. memory m any (place m lt);
        reads = λ m lt. reads m (place m lt);
        register_clocks = each-register (λ (register : Register). IsClock one.clocks register.clock)
            (lift-register-clock all one (range_with_len 0 (length one.signals)) (range_with_len 0 (length one.registers)) (range_with_len 0 (length one.memories)) (clocks_from 0 one.clocks) first (own-among one.clocks))
            (lift-register-clock all (placed front model) (globals_behind one model) (held_behind one model) (memories_behind one model) [] second (none-among one.clocks));
        memory_clocks = λ m any lt. memory-clocks m any (place m lt);
      }
