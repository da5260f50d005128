-- The circuits with memories are well formed, and their lists are orders of them, so their worked rows are the run.
use Rattle.std.proofs.Common.{◌≡◌, ◌≢◌, ℕ, zero, suc, ◌<◌, inl, inr, List, [], ◌∷◌, length, map, take, get_or, Bool, true, false, eqb, true≢false, refl, sym, ap, ◌*◌, ◌+◌, arith, lit<, lit≤}
use Rattle.std.specs.Prelude.{Contains, AllPairs, slice_index_or, if◌then◌else◌}
use Rattle.std.proofs.lemmas.List.Kept.{AllPairs-cons}
use Rattle.gg_bits.specs.Shape.{Fits, shape}
use Rattle.gg_bits.specs.declared.ops.Op1.TheVariants.{Not}
use Rattle.gg_bits.specs.declared.ops.OpN.TheVariants.{Bits}
use Rattle.gg_flat.specs.declared.line.Op.TheVariants.{Ref, Literal, One, Fix}
use Rattle.gg_flat.specs.declared.memory.UnderWrite.TheVariants.{New}
use Rattle.gg_flat.specs.declared.memory.Latency.TheVariants.{Zero}
use Rattle.gg_flat.specs.declared.memory.Memory.{Memory}
use Rattle.gg_flat.specs.declared.piece.Driver.TheVariants.{Input}
use Rattle.gg_flat.specs.Line.{shape_at, value_at, HasType}
use Rattle.gg_flat.specs.Circuit.{FlatCircuit, signal_shapes, driver_at}
use Rattle.gg_flat.specs.Reads.{Reads}
use Rattle.gg_flat.specs.WellFormed.{MayDrive, IsClock, IsClockedMemory, IsReader, IsWriter, IsMemory, IsWellFormed}
use Rattle.gg_flat.specs.Order.{IsOrder}
use Rattle.gg_flat.specs.Settled.{in_shapes}
use Rattle.gg_flat.specs.Run.{IsRun, IsColumns, inputs_at}
use Rattle.gg_flat.specs.inside.Along.{rows_along}
use Rattle.gg_order.proofs.RunsLemmas.AlongLemmas.{IsRun-along}
use Rattle.gg_flat.proofs.WorkedCircuits.{eight, value}
use Rattle.gg_flat.proofs.WorkedForms.{only, both, three, four, five, apart, other, same}
use Rattle.gg_flat.proofs.WorkedMemories.{ports, ports_order, ports_inputs, late, late_order, late_inputs}

-- ---- facts that hold at each place, and numbers that differ

-- a fact that holds at each place of a list of six elements, and of more than six
six : (P : ℕ → Type 0) → P 0 → P 1 → P 2 → P 3 → P 4 → P 5 → (k : ℕ) → k < 6 → P k
six P first second third fourth fifth sixth zero lt = first
six P first second third fourth fifth sixth (suc k) lt = five (λ i. P (suc i)) second third fourth fifth sixth k (omega arith)

six_more : (P : ℕ → Type 0) (n : ℕ) → P 0 → P 1 → P 2 → P 3 → P 4 → P 5 → ((k : ℕ) → k < n → P (suc (suc (suc (suc (suc (suc k))))))) → (k : ℕ) → k < suc (suc (suc (suc (suc (suc n))))) → P k
six_more P n first second third fourth fifth sixth rest zero lt = first
six_more P n first second third fourth fifth sixth rest (suc zero) lt = second
six_more P n first second third fourth fifth sixth rest (suc (suc zero)) lt = third
six_more P n first second third fourth fifth sixth rest (suc (suc (suc zero))) lt = fourth
six_more P n first second third fourth fifth sixth rest (suc (suc (suc (suc zero)))) lt = fifth
six_more P n first second third fourth fifth sixth rest (suc (suc (suc (suc (suc zero))))) lt = sixth
six_more P n first second third fourth fifth sixth rest (suc (suc (suc (suc (suc (suc k)))))) lt = rest k (omega arith)

-- a number is none of these; no two of these are equal
abbrev is_fresh : ℕ → List ℕ → Bool
is_fresh n [] = true
is_fresh n (m ∷ ms) = if eqb n m then false else is_fresh n ms

abbrev are_fresh : List ℕ → Bool
are_fresh [] = true
are_fresh (n ∷ ns) = if is_fresh n ns then are_fresh ns else false

not_then : (a b : Bool) → (if a then false else b) ≡ true → (a ≡ false) × (b ≡ true)
not_then true b is = absurd (true≢false (sym is))
not_then false b is = (refl, is)

and_then : (a b : Bool) → (if a then b else false) ≡ true → (a ≡ true) × (b ≡ true)
and_then true b is = (refl, is)
and_then false b is = absurd (true≢false (sym is))

module _ {X : Type 0} (code : X → ℕ) where
  fresh-apart : (n : ℕ) (xs : List X) → is_fresh n (map code xs) ≡ true → (k : ℕ) (d : X) → k < length xs → n ≢ code (get_or xs k d)
  fresh-apart n [] is k d lt = absurd (omega arith)
  fresh-apart n (x ∷ xs) is zero d lt = apart n (code x) (not_then (eqb n (code x)) (is_fresh n (map code xs)) is).0
  fresh-apart n (x ∷ xs) is (suc k) d lt = fresh-apart n xs (not_then (eqb n (code x)) (is_fresh n (map code xs)) is).1 k d (omega arith)

  -- elements with different codes differ
  all-apart : (xs : List X) → are_fresh (map code xs) ≡ true → AllPairs (λ a b. a ≢ b) xs
  all-apart [] is = λ i j d lt within. absurd (omega arith)
  all-apart (x ∷ xs) is =
      let parts = and_then (is_fresh (code x) (map code xs)) (are_fresh (map code xs)) is in
      AllPairs-cons (λ a b. a ≢ b) x xs (λ k d lt same. fresh-apart (code x) xs parts.0 k d lt (ap code same)) (all-apart xs parts.1)

-- a path of one or two bytes as a number
abbrev path_code : List ℕ → ℕ
path_code path = value_at path 0 * 256 + value_at path 1

-- ---- two readers and two writers at one address

ports-drivers : (s : ℕ) → s < 18 → MayDrive ports s (driver_at ports s)
ports-drivers = six_more (λ s. MayDrive ports s (driver_at ports s)) 12
    (lit< tt, refl)
    (lit< tt, refl)
    (record { line = record { some = lit< tt; typed = only _ (lit< tt, refl) }; kind = refl; width = lit≤ tt })
    (record { line = record { some = lit< tt; typed = only _ (lit< tt, refl) }; kind = refl; width = lit≤ tt })
    (record { line = record { some = lit< tt; typed = only _ (lit< tt, refl) }; kind = refl; width = lit≤ tt })
    (record { line = record { some = lit< tt; typed = only _ (lit< tt) }; kind = refl; width = lit≤ tt })
    (six_more _ 6
    (lit< tt, refl)
    (record { line = record { some = lit< tt; typed = only _ (lit< tt, refl) }; kind = refl; width = lit≤ tt })
    (record { line = record { some = lit< tt; typed = both _ (lit< tt, refl) (lit< tt, refl) }; kind = refl; width = lit≤ tt })
    (lit< tt, refl)
    (record { line = record { some = lit< tt; typed = only _ (lit< tt, refl) }; kind = refl; width = lit≤ tt })
    (record { line = record { some = lit< tt; typed = only _ (lit< tt) }; kind = refl; width = lit≤ tt })
    (six _
    (record { line = record { some = lit< tt; typed = only _ (lit< tt, refl) }; kind = refl; width = lit≤ tt })
    (record { line = record { some = lit< tt; typed = only _ (lit< tt) }; kind = refl; width = lit≤ tt })
    (record { line = record { some = lit< tt; typed = only _ (lit< tt, refl) }; kind = refl; width = lit≤ tt })
    (record { line = record { some = lit< tt; typed = only _ (lit< tt) }; kind = refl; width = lit≤ tt })
    (record { line = record { some = lit< tt; typed = both _ (lit< tt, refl) (lit< tt, refl) }; kind = refl; width = lit≤ tt })
    (record { line = record { some = lit< tt; typed = only _ (lit< tt) }; kind = refl; width = lit≤ tt })))

abbrev ports_memory : Memory
ports_memory = slice_index_or ports.memories 0 (record { word = eight; depth = 1; latency = Zero; readers = []; writers = [] })

ports-memory : IsMemory (HasType (signal_shapes ports)) ports_memory
ports-memory =
    record {
      some = lit< tt;
      readers = λ k d lt. both (λ i. IsReader (HasType (signal_shapes ports)) (shape eight) 3 (slice_index_or ports_memory.readers i d)) (record { address = (lit< tt, refl); enable = (lit< tt, refl); output = (lit< tt, refl) }) (record { address = (lit< tt, refl); enable = (lit< tt, refl); output = (lit< tt, refl) }) k lt;
      writers = λ k d lt. both (λ i. IsWriter (HasType (signal_shapes ports)) (shape eight) 3 (slice_index_or ports_memory.writers i d)) (record { address = (lit< tt, refl); enable = (lit< tt, refl); input = (lit< tt, refl); masked = (lit< tt, refl) }) (record { address = (lit< tt, refl); enable = (lit< tt, refl); input = (lit< tt, refl); masked = (lit< tt, refl) }) k lt;
    }

ports-formed : IsWellFormed ports
ports-formed =
    record {
      named = refl;
      distinct = all-apart path_code ports.paths refl;
      drivers = ports-drivers;
      ins = both (λ place. (value_at ports.ins place < 18) × (driver_at ports (value_at ports.ins place) ≡ Input place)) (lit< tt, refl) (lit< tt, refl);
      outs = both (λ k. value_at ports.outs k < 18) (lit< tt) (lit< tt);
      registers = λ k d lt. absurd (omega arith);
      memories = λ k d lt. only (λ i. IsMemory (HasType (signal_shapes ports)) (slice_index_or ports.memories i d)) ports-memory k lt;
      reads = only _ (both _ refl refl);
      register_clocks = λ k d lt. absurd (omega arith);
      memory_clocks = λ k d lt. only (λ i. IsClockedMemory 0 (slice_index_or ports.memories i d)) (record {
        readers = λ k d lt. both (λ i. IsClock 0 (slice_index_or ports_memory.readers i d).clock) tt tt k lt;
        writers = λ k d lt. both (λ i. IsClock 0 (slice_index_or ports_memory.writers i d).clock) tt tt k lt;
      }) k lt;
    }

ports-after : (i : ℕ) → i < 18 → (s : ℕ) → Reads ports (value_at ports_order i) s → Contains (take i ports_order) s
ports-after = six_more (λ i. (s : ℕ) → Reads ports (value_at ports_order i) s → Contains (take i ports_order) s) 12
    (λ s r. absurd r.names)
    (λ s r. absurd r.names)
    (λ s r. only (λ k. slice_index_or (Ref 0 ∷ []) k (Ref s) ≡ Ref s → Contains (take 2 ports_order) s) (λ is. (0, lit< tt, same 0 s is)) r.names.0 r.names.1 r.names.2)
    (λ s r. only (λ k. slice_index_or (Literal (value 1) ∷ []) k (Ref s) ≡ Ref s → Contains (take 3 ports_order) s) (other (Literal (value 1)) s refl) r.names.0 r.names.1 r.names.2)
    (λ s r. elim r.names [ inl is ↦ (2, lit< tt, is) | inr is ↦ (3, lit< tt, is) ])
    (λ s r. only (λ k. slice_index_or (Ref 0 ∷ []) k (Ref s) ≡ Ref s → Contains (take 5 ports_order) s) (λ is. (0, lit< tt, same 0 s is)) r.names.0 r.names.1 r.names.2)
    (six_more _ 6
    (λ s r. both (λ k. slice_index_or (Ref 1 ∷ Fix Bits 0 0 0 ∷ []) k (Ref s) ≡ Ref s → Contains (take 6 ports_order) s) (λ is. (1, lit< tt, same 1 s is)) (other (Fix Bits 0 0 0) s refl) r.names.0 r.names.1 r.names.2)
    (λ s r. elim r.names [ inl is ↦ (5, lit< tt, is) | inr is ↦ (6, lit< tt, is) ])
    (λ s r. only (λ k. slice_index_or (Ref 0 ∷ []) k (Ref s) ≡ Ref s → Contains (take 8 ports_order) s) (λ is. (0, lit< tt, same 0 s is)) r.names.0 r.names.1 r.names.2)
    (λ s r. only (λ k. slice_index_or (Literal (value 1) ∷ []) k (Ref s) ≡ Ref s → Contains (take 9 ports_order) s) (other (Literal (value 1)) s refl) r.names.0 r.names.1 r.names.2)
    (λ s r. only (λ k. slice_index_or (Ref 1 ∷ []) k (Ref s) ≡ Ref s → Contains (take 10 ports_order) s) (λ is. (1, lit< tt, same 1 s is)) r.names.0 r.names.1 r.names.2)
    (λ s r. only (λ k. slice_index_or (Literal (value 1) ∷ []) k (Ref s) ≡ Ref s → Contains (take 11 ports_order) s) (other (Literal (value 1)) s refl) r.names.0 r.names.1 r.names.2)
    (six _
    (λ s r. only (λ k. slice_index_or (Ref 0 ∷ []) k (Ref s) ≡ Ref s → Contains (take 12 ports_order) s) (λ is. (0, lit< tt, same 0 s is)) r.names.0 r.names.1 r.names.2)
    (λ s r. only (λ k. slice_index_or (Literal (value 1) ∷ []) k (Ref s) ≡ Ref s → Contains (take 13 ports_order) s) (other (Literal (value 1)) s refl) r.names.0 r.names.1 r.names.2)
    (λ s r. both (λ k. slice_index_or (Ref 1 ∷ One Not 0 ∷ []) k (Ref s) ≡ Ref s → Contains (take 14 ports_order) s) (λ is. (1, lit< tt, same 1 s is)) (other (One Not 0) s refl) r.names.0 r.names.1 r.names.2)
    (λ s r. only (λ k. slice_index_or (Literal (value 1) ∷ []) k (Ref s) ≡ Ref s → Contains (take 15 ports_order) s) (other (Literal (value 1)) s refl) r.names.0 r.names.1 r.names.2)
    (λ s r. only (λ k. slice_index_or (Ref 6 ∷ []) k (Ref s) ≡ Ref s → Contains (take 16 ports_order) s) (λ is. (4, lit< tt, same 6 s is)) r.names.0 r.names.1 r.names.2)
    (λ s r. only (λ k. slice_index_or (Ref 9 ∷ []) k (Ref s) ≡ Ref s → Contains (take 17 ports_order) s) (λ is. (7, lit< tt, same 9 s is)) r.names.0 r.names.1 r.names.2)))

ports-ordered : IsOrder ports ports_order
ports-ordered =
    record {
      signals = six_more (λ i. value_at ports_order i < 18) 12
          (lit< tt)
          (lit< tt)
          (lit< tt)
          (lit< tt)
          (lit< tt)
          (lit< tt)
          (six_more _ 6
          (lit< tt)
          (lit< tt)
          (lit< tt)
          (lit< tt)
          (lit< tt)
          (lit< tt)
          (six _
          (lit< tt)
          (lit< tt)
          (lit< tt)
          (lit< tt)
          (lit< tt)
          (lit< tt)));
      once = all-apart (λ s. s) ports_order refl;
      every = six_more (Contains ports_order) 12
          (0, lit< tt, refl)
          (1, lit< tt, refl)
          (16, lit< tt, refl)
          (17, lit< tt, refl)
          (2, lit< tt, refl)
          (3, lit< tt, refl)
          (six_more _ 6
          (4, lit< tt, refl)
          (5, lit< tt, refl)
          (6, lit< tt, refl)
          (7, lit< tt, refl)
          (8, lit< tt, refl)
          (9, lit< tt, refl)
          (six _
          (10, lit< tt, refl)
          (11, lit< tt, refl)
          (12, lit< tt, refl)
          (13, lit< tt, refl)
          (14, lit< tt, refl)
          (15, lit< tt, refl)));
      after = λ i s lt. ports-after i lt s;
    }

ports-columns : IsColumns ports 4 ports_inputs
ports-columns =
    record {
      count = refl;
      height = λ k d lt. both (λ i. length (slice_index_or ports_inputs i d) ≡ 4) refl refl k lt;
      inputs = λ t lt. record {
        count = refl;
        fits = both (λ i. Fits (shape_at (in_shapes ports) i) (value_at (inputs_at ports_inputs t) i))
            (four (λ n. value_at (1 ∷ 1 ∷ 3 ∷ 1 ∷ []) n < 4) (lit< tt) (lit< tt) (lit< tt) (lit< tt) t lt)
            (four (λ n. value_at (15 ∷ 33 ∷ 85 ∷ 0 ∷ []) n < 256) (lit< tt) (lit< tt) (lit< tt) (lit< tt) t lt);
      };
    }

ports-run : IsRun ports ports_inputs 4 (rows_along ports ports_order ports_inputs 4)
ports-run = IsRun-along ports ports_order ports_inputs 4 ports-formed ports-ordered ports-columns

-- ---- a late reader of new words

abbrev new : FlatCircuit
new = late New

late-drivers : (s : ℕ) → s < 11 → MayDrive new s (driver_at new s)
late-drivers = six_more (λ s. MayDrive new s (driver_at new s)) 5
    (lit< tt, refl)
    (lit< tt, refl)
    (lit< tt, refl)
    (record { line = record { some = lit< tt; typed = only _ (lit< tt, refl) }; kind = refl; width = lit≤ tt })
    (record { line = record { some = lit< tt; typed = only _ (lit< tt, refl) }; kind = refl; width = lit≤ tt })
    (record { line = record { some = lit< tt; typed = only _ (lit< tt, refl) }; kind = refl; width = lit≤ tt })
    (five _
    (lit< tt, refl)
    (record { line = record { some = lit< tt; typed = only _ (lit< tt, refl) }; kind = refl; width = lit≤ tt })
    (record { line = record { some = lit< tt; typed = only _ (lit< tt) }; kind = refl; width = lit≤ tt })
    (record { line = record { some = lit< tt; typed = only _ (lit< tt, refl) }; kind = refl; width = lit≤ tt })
    (record { line = record { some = lit< tt; typed = only _ (lit< tt) }; kind = refl; width = lit≤ tt }))

abbrev late_memory : Memory
late_memory = slice_index_or new.memories 0 (record { word = eight; depth = 1; latency = Zero; readers = []; writers = [] })

late-memory : IsMemory (HasType (signal_shapes new)) late_memory
late-memory =
    record {
      some = lit< tt;
      readers = λ k d lt. only (λ i. IsReader (HasType (signal_shapes new)) (shape eight) 3 (slice_index_or late_memory.readers i d)) (record { address = (lit< tt, refl); enable = (lit< tt, refl); output = (lit< tt, refl) }) k lt;
      writers = λ k d lt. only (λ i. IsWriter (HasType (signal_shapes new)) (shape eight) 3 (slice_index_or late_memory.writers i d)) (record { address = (lit< tt, refl); enable = (lit< tt, refl); input = (lit< tt, refl); masked = (lit< tt, refl) }) k lt;
    }

late-formed : IsWellFormed new
late-formed =
    record {
      named = refl;
      distinct = all-apart path_code new.paths refl;
      drivers = late-drivers;
      ins = three (λ place. (value_at new.ins place < 11) × (driver_at new (value_at new.ins place) ≡ Input place)) (lit< tt, refl) (lit< tt, refl) (lit< tt, refl);
      outs = only _ (lit< tt);
      registers = λ k d lt. absurd (omega arith);
      memories = λ k d lt. only (λ i. IsMemory (HasType (signal_shapes new)) (slice_index_or new.memories i d)) late-memory k lt;
      reads = only _ (only _ refl);
      register_clocks = λ k d lt. absurd (omega arith);
      memory_clocks = λ k d lt. only (λ i. IsClockedMemory 0 (slice_index_or new.memories i d)) (record {
        readers = λ k d lt. only (λ i. IsClock 0 (slice_index_or late_memory.readers i d).clock) tt k lt;
        writers = λ k d lt. only (λ i. IsClock 0 (slice_index_or late_memory.writers i d).clock) tt k lt;
      }) k lt;
    }

late-after : (i : ℕ) → i < 11 → (s : ℕ) → Reads new (value_at late_order i) s → Contains (take i late_order) s
late-after = six_more (λ i. (s : ℕ) → Reads new (value_at late_order i) s → Contains (take i late_order) s) 5
    (λ s r. absurd r.names)
    (λ s r. absurd r.names)
    (λ s r. absurd r.names)
    (λ s r. only (λ k. slice_index_or (Ref 0 ∷ []) k (Ref s) ≡ Ref s → Contains (take 3 late_order) s) (λ is. (0, lit< tt, same 0 s is)) r.names.0 r.names.1 r.names.2)
    (λ s r. only (λ k. slice_index_or (Ref 1 ∷ []) k (Ref s) ≡ Ref s → Contains (take 4 late_order) s) (λ is. (1, lit< tt, same 1 s is)) r.names.0 r.names.1 r.names.2)
    (λ s r. absurd r.names)
    (five _
    (λ s r. only (λ k. slice_index_or (Ref 0 ∷ []) k (Ref s) ≡ Ref s → Contains (take 6 late_order) s) (λ is. (0, lit< tt, same 0 s is)) r.names.0 r.names.1 r.names.2)
    (λ s r. only (λ k. slice_index_or (Literal (value 1) ∷ []) k (Ref s) ≡ Ref s → Contains (take 7 late_order) s) (other (Literal (value 1)) s refl) r.names.0 r.names.1 r.names.2)
    (λ s r. only (λ k. slice_index_or (Ref 2 ∷ []) k (Ref s) ≡ Ref s → Contains (take 8 late_order) s) (λ is. (2, lit< tt, same 2 s is)) r.names.0 r.names.1 r.names.2)
    (λ s r. only (λ k. slice_index_or (Literal (value 1) ∷ []) k (Ref s) ≡ Ref s → Contains (take 9 late_order) s) (other (Literal (value 1)) s refl) r.names.0 r.names.1 r.names.2)
    (λ s r. only (λ k. slice_index_or (Ref 6 ∷ []) k (Ref s) ≡ Ref s → Contains (take 10 late_order) s) (λ is. (5, lit< tt, same 6 s is)) r.names.0 r.names.1 r.names.2))

late-ordered : IsOrder new late_order
late-ordered =
    record {
      signals = six_more (λ i. value_at late_order i < 11) 5
          (lit< tt)
          (lit< tt)
          (lit< tt)
          (lit< tt)
          (lit< tt)
          (lit< tt)
          (five _
          (lit< tt)
          (lit< tt)
          (lit< tt)
          (lit< tt)
          (lit< tt));
      once = all-apart (λ s. s) late_order refl;
      every = six_more (Contains late_order) 5
          (0, lit< tt, refl)
          (1, lit< tt, refl)
          (2, lit< tt, refl)
          (10, lit< tt, refl)
          (3, lit< tt, refl)
          (4, lit< tt, refl)
          (five _
          (5, lit< tt, refl)
          (6, lit< tt, refl)
          (7, lit< tt, refl)
          (8, lit< tt, refl)
          (9, lit< tt, refl));
      after = λ i s lt. late-after i lt s;
    }

late-columns : IsColumns new 5 late_inputs
late-columns =
    record {
      count = refl;
      height = λ k d lt. three (λ i. length (slice_index_or late_inputs i d) ≡ 5) refl refl refl k lt;
      inputs = λ t lt. record {
        count = refl;
        fits = three (λ i. Fits (shape_at (in_shapes new) i) (value_at (inputs_at late_inputs t) i))
            (five (λ n. value_at (1 ∷ 1 ∷ 3 ∷ 1 ∷ 0 ∷ []) n < 4) (lit< tt) (lit< tt) (lit< tt) (lit< tt) (lit< tt) t lt)
            (five (λ n. value_at (1 ∷ 0 ∷ 1 ∷ 1 ∷ 0 ∷ []) n < 2) (lit< tt) (lit< tt) (lit< tt) (lit< tt) (lit< tt) t lt)
            (five (λ n. value_at (17 ∷ 34 ∷ 51 ∷ 68 ∷ 0 ∷ []) n < 256) (lit< tt) (lit< tt) (lit< tt) (lit< tt) (lit< tt) t lt);
      };
    }

late-run : IsRun new late_inputs 5 (rows_along new late_order late_inputs 5)
late-run = IsRun-along new late_order late_inputs 5 late-formed late-ordered late-columns
