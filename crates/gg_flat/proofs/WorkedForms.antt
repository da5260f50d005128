-- The small circuits are well formed, and their lists are orders of them, so their worked rows are the run.
use Rattle.std.proofs.Common.{◌≡◌, ◌≢◌, ℕ, zero, suc, ◌<◌, [], ◌∷◌, length, take, Bool, true, false, eqb, eq-eqb, true≢false, refl, sym, ◌∙◌, ap, arith, lit<, lit≤}
use Rattle.std.specs.Prelude.{Contains, AllPairs, slice_index_or}
use Rattle.std.proofs.lemmas.List.Kept.{AllPairs-cons}
use Rattle.gg_bits.specs.Shape.{Fits}
use Rattle.gg_bits.specs.declared.ops.Op2.TheVariants.{Add}
use Rattle.gg_flat.specs.declared.line.Op.{Op}
use Rattle.gg_flat.specs.declared.line.Op.TheVariants.{Ref, Literal, One, Two, Fix, Mux}
use Rattle.gg_flat.specs.Line.{shape_at, value_at, HasType}
use Rattle.gg_flat.specs.Circuit.{signal_shapes, driver_at}
use Rattle.gg_flat.specs.Reads.{Reads}
use Rattle.gg_flat.specs.WellFormed.{MayDrive, IsClock, IsRegister, IsWellFormed}
use Rattle.gg_flat.specs.Order.{IsOrder}
use Rattle.gg_flat.specs.Settled.{in_shapes}
use Rattle.gg_flat.specs.Run.{IsColumns, inputs_at}
use Rattle.gg_flat.proofs.WorkedCircuits.{value, counter, counter_order, toggle, toggle_order, loaded, loaded_order}
use Rattle.gg_flat.proofs.WorkedRows.{counter_inputs, loaded_inputs}

-- a fact that holds at each place of a list of one, two, three, four and five elements
pub only : (P : ℕ → Type 0) → P 0 → (k : ℕ) → k < 1 → P k
only P first zero lt = first
only P first (suc k) lt = absurd (omega arith)

pub both : (P : ℕ → Type 0) → P 0 → P 1 → (k : ℕ) → k < 2 → P k
both P first second zero lt = first
both P first second (suc k) lt = only (λ i. P (suc i)) second k (omega arith)

pub three : (P : ℕ → Type 0) → P 0 → P 1 → P 2 → (k : ℕ) → k < 3 → P k
three P first second third zero lt = first
three P first second third (suc k) lt = both (λ i. P (suc i)) second third k (omega arith)

pub four : (P : ℕ → Type 0) → P 0 → P 1 → P 2 → P 3 → (k : ℕ) → k < 4 → P k
four P first second third fourth zero lt = first
four P first second third fourth (suc k) lt = three (λ i. P (suc i)) second third fourth k (omega arith)

pub five : (P : ℕ → Type 0) → P 0 → P 1 → P 2 → P 3 → P 4 → (k : ℕ) → k < 5 → P k
five P first second third fourth fifth zero lt = first
five P first second third fourth fifth (suc k) lt = four (λ i. P (suc i)) second third fourth fifth k (omega arith)

-- numbers, and names of one byte, that differ
pub apart : (a b : ℕ) → eqb a b ≡ false → a ≢ b
apart a b unequal e = true≢false (sym (eq-eqb a b e) ∙ unequal)

pub differ : (a b : ℕ) → eqb a b ≡ false → (a ∷ []) ≢ (b ∷ [])
differ a b unequal e = apart a b unequal (ap (λ l. value_at l 0) e)

-- a name of one byte that isn't a dot
pub letter : (byte : ℕ) → byte ≢ 46 → ¬ Contains (byte ∷ []) 46
letter byte other (zero, lt, is) = other is
letter byte other (suc k, lt, is) = absurd (omega arith)

module _ {X : Type 0} where
  -- lists of one, two and four elements that differ
  pub single : (x : X) → AllPairs (λ a b. a ≢ b) (x ∷ [])
  single x i j d lt within = absurd (omega arith)

  pub pair : (x y : X) → x ≢ y → AllPairs (λ a b. a ≢ b) (x ∷ y ∷ [])
  pair x y apart = AllPairs-cons (λ a b. a ≢ b) x (y ∷ []) (λ k d lt. only (λ i. x ≢ slice_index_or (y ∷ []) i d) apart k lt) (single y)

  pub quad : (x y z w : X) → x ≢ y → x ≢ z → x ≢ w → y ≢ z → y ≢ w → z ≢ w → AllPairs (λ a b. a ≢ b) (x ∷ y ∷ z ∷ w ∷ [])
  quad x y z w xy xz xw yz yw zw =
      AllPairs-cons (λ a b. a ≢ b) x (y ∷ z ∷ w ∷ []) (λ k d lt. three (λ i. x ≢ slice_index_or (y ∷ z ∷ w ∷ []) i d) xy xz xw k lt)
      (AllPairs-cons (λ a b. a ≢ b) y (z ∷ w ∷ []) (λ k d lt. both (λ i. y ≢ slice_index_or (z ∷ w ∷ []) i d) yz yw k lt)
      (pair z w zw))

-- ---- what nodes name

-- whether an operation is a reference to a signal, and to which
abbrev pub is_reference : Op → Bool
is_reference (Ref s) = true
is_reference (Literal value) = false
is_reference (One op i) = false
is_reference (Two op i j) = false
is_reference (Fix op i n m) = false
is_reference (Mux c i j) = false

abbrev pub referred : Op → ℕ
referred (Ref s) = s
referred (Literal value) = 0
referred (One op i) = 0
referred (Two op i j) = 0
referred (Fix op i n m) = 0
referred (Mux c i j) = 0

-- an operation that isn't a reference can't be one to signal s
pub other : {A : Type 0} (op : Op) (s : ℕ) → is_reference op ≡ false → op ≡ Ref s → A
other op s none is = absurd (true≢false (sym (ap is_reference is) ∙ none))

-- equal references are to the same signal
pub same : (s t : ℕ) → Ref s ≡ Ref t → s ≡ t
same s t is = ap referred is

-- ---- the toggle

pub toggle-formed : IsWellFormed toggle
toggle-formed = record {
  named = refl;
  distinct = pair _ _ (differ 113 114 refl);
  drivers = both (λ s. MayDrive toggle s (driver_at toggle s)) (record { line = record { some = lit< tt; typed = only _ (lit< tt, refl) }; kind = refl; width = lit≤ tt }) (lit< tt, refl);
  ins = λ place lt. absurd (omega arith);
  outs = only _ (lit< tt);
  registers = λ k d lt. only (λ i. IsRegister (HasType (signal_shapes toggle)) (slice_index_or toggle.registers i d)) (record {
    reset = tt;
    next = record { line = record { some = lit< tt; typed = both _ (lit< tt, refl) (lit< tt, refl) }; kind = refl; width = lit≤ tt };
  }) k lt;
  memories = λ m d lt. absurd (omega arith);
  reads = λ m lt. absurd (omega arith);
  register_clocks = λ k d lt. only (λ i. IsClock 0 (slice_index_or toggle.registers i d).clock) tt k lt;
  memory_clocks = λ m d lt. absurd (omega arith);
}

pub toggle-ordered : IsOrder toggle toggle_order
toggle-ordered = record {
  signals = both _ (lit< tt) (lit< tt);
  once = pair 1 0 (apart 1 0 refl);
  every = both _ (1, lit< tt, refl) (0, lit< tt, refl);
  after = λ i s lt. both (λ i. Reads toggle (value_at toggle_order i) s → Contains (take i toggle_order) s)
      (λ r. absurd r.names)
      (λ r. only (λ k. slice_index_or (Ref 1 ∷ []) k (Ref s) ≡ Ref s → Contains (1 ∷ []) s) (λ is. (0, lit< tt, same 1 s is)) r.names.0 r.names.1 r.names.2)
      i lt;
}

pub toggle-columns : IsColumns toggle 3 []
toggle-columns = record {
  count = refl;
  height = λ k d lt. absurd (omega arith);
  inputs = λ t lt. record { count = refl; fits = λ i lt. absurd (omega arith) };
}

-- ---- the counter that an input sets

pub loaded-formed : IsWellFormed loaded
loaded-formed = record {
  named = refl;
  distinct = pair _ _ (differ 115 99 refl);
  drivers = both (λ s. MayDrive loaded s (driver_at loaded s)) (lit< tt, refl) (lit< tt, refl);
  ins = only _ (lit< tt, refl);
  outs = only _ (lit< tt);
  registers = λ k d lt. only (λ i. IsRegister (HasType (signal_shapes loaded)) (slice_index_or loaded.registers i d)) (record {
    reset = record {
      condition = record { line = record { some = lit< tt; typed = only _ (lit< tt, refl) }; bit = refl };
      init = record { line = record { some = lit< tt; typed = only _ (lit< tt) }; kind = refl; width = lit≤ tt };
    };
    next = record {
      line = record { some = lit< tt; typed = four _ (lit< tt, refl) (lit< tt) (lit< tt, lit< tt, refl) (lit< tt, refl) };
      kind = refl;
      width = lit≤ tt;
    };
  }) k lt;
  memories = λ m d lt. absurd (omega arith);
  reads = λ m lt. absurd (omega arith);
  register_clocks = λ k d lt. only (λ i. IsClock 0 (slice_index_or loaded.registers i d).clock) tt k lt;
  memory_clocks = λ m d lt. absurd (omega arith);
}

pub loaded-ordered : IsOrder loaded loaded_order
loaded-ordered = record {
  signals = both _ (lit< tt) (lit< tt);
  once = pair 0 1 (apart 0 1 refl);
  every = both _ (0, lit< tt, refl) (1, lit< tt, refl);
  after = λ i s lt. both (λ i. Reads loaded (value_at loaded_order i) s → Contains (take i loaded_order) s) (λ r. absurd r.names) (λ r. absurd r.names) i lt;
}

pub loaded-columns : IsColumns loaded 6 loaded_inputs
loaded-columns = record {
  count = refl;
  height = λ k d lt. only (λ i. length (slice_index_or loaded_inputs i d) ≡ 6) refl k lt;
  inputs = λ t lt. record { count = refl; fits = only (λ i. Fits (shape_at (in_shapes loaded) i) (value_at (inputs_at loaded_inputs t) i)) (bit t lt) };
}
  where
    bit : (t : ℕ) → t < 6 → value_at (0 ∷ 1 ∷ 0 ∷ 0 ∷ 1 ∷ 0 ∷ []) t < 2
    bit zero lt = lit< tt
    bit (suc t) lt = five (λ i. value_at (1 ∷ 0 ∷ 0 ∷ 1 ∷ 0 ∷ []) i < 2) (lit< tt) (lit< tt) (lit< tt) (lit< tt) (lit< tt) t (omega arith)

-- ---- the counter

pub counter-formed : IsWellFormed counter
counter-formed = record {
  named = refl;
  distinct = quad _ _ _ _ (differ 114 111 refl) (differ 114 99 refl) (differ 114 110 refl) (differ 111 99 refl) (differ 111 110 refl) (differ 99 110 refl);
  drivers = four (λ s. MayDrive counter s (driver_at counter s))
      (lit< tt, refl)
      (record { line = record { some = lit< tt; typed = only _ (lit< tt, refl) }; kind = refl; width = lit≤ tt })
      (lit< tt, refl)
      (record { line = record { some = lit< tt; typed = three _ (lit< tt, refl) (lit< tt) (lit< tt, lit< tt, refl) }; kind = refl; width = lit≤ tt });
  ins = only _ (lit< tt, refl);
  outs = only _ (lit< tt);
  registers = λ k d lt. only (λ i. IsRegister (HasType (signal_shapes counter)) (slice_index_or counter.registers i d)) (record {
    reset = record {
      condition = record { line = record { some = lit< tt; typed = only _ (lit< tt) }; bit = refl };
      init = record { line = record { some = lit< tt; typed = only _ (lit< tt, refl) }; kind = refl; width = lit≤ tt };
    };
    next = record {
      line = record { some = lit< tt; typed = five _ (lit< tt, refl) (lit< tt) (lit< tt, refl) (lit< tt, refl) (lit< tt, lit< tt, lit< tt, refl) };
      kind = refl;
      width = lit≤ tt;
    };
  }) k lt;
  memories = λ m d lt. absurd (omega arith);
  reads = λ m lt. absurd (omega arith);
  register_clocks = λ k d lt. only (λ i. IsClock 0 (slice_index_or counter.registers i d).clock) tt k lt;
  memory_clocks = λ m d lt. absurd (omega arith);
}

pub counter-ordered : IsOrder counter counter_order
counter-ordered = record {
  signals = four _ (lit< tt) (lit< tt) (lit< tt) (lit< tt);
  once = quad 0 2 3 1 (apart 0 2 refl) (apart 0 3 refl) (apart 0 1 refl) (apart 2 3 refl) (apart 2 1 refl) (apart 3 1 refl);
  every = four _ (0, lit< tt, refl) (3, lit< tt, refl) (1, lit< tt, refl) (2, lit< tt, refl);
  after = λ i s lt. four (λ i. Reads counter (value_at counter_order i) s → Contains (take i counter_order) s)
      (λ r. absurd r.names)
      (λ r. absurd r.names)
      (λ r. three (λ k. slice_index_or (Ref 2 ∷ Literal (value 1) ∷ Two Add 0 1 ∷ []) k (Ref s) ≡ Ref s → Contains (0 ∷ 2 ∷ []) s)
      (λ is. (1, lit< tt, same 2 s is))
      (other (Literal (value 1)) s refl)
      (other (Two Add 0 1) s refl)
      r.names.0 r.names.1 r.names.2)
      (λ r. only (λ k. slice_index_or (Ref 2 ∷ []) k (Ref s) ≡ Ref s → Contains (0 ∷ 2 ∷ 3 ∷ []) s) (λ is. (1, lit< tt, same 2 s is)) r.names.0 r.names.1 r.names.2)
      i lt;
}

pub counter-columns : IsColumns counter 4 counter_inputs
counter-columns = record {
  count = refl;
  height = λ k d lt. only (λ i. length (slice_index_or counter_inputs i d) ≡ 4) refl k lt;
  inputs = λ t lt. record {
    count = refl;
    fits = only (λ i. Fits (shape_at (in_shapes counter) i) (value_at (inputs_at counter_inputs t) i))
        (four (λ n. value_at (1 ∷ 0 ∷ 0 ∷ 0 ∷ []) n < 2) (lit< tt) (lit< tt) (lit< tt) (lit< tt) t lt);
  };
}
