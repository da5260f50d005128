-- An order of the design, behind the pipes, is an order of the reference circuit. And a copy's origin is that of what it copies.
use Rattle.std.proofs.Common.{◌≡◌, ◌≢◌, ℕ, ◌+◌, ◌-◌, ◌<◌, ◌≤◌, List, ◌++◌, length, take, get_or, sym, ◌∙◌, ap, subst, inl, inr, ◌⊎◌, refl, length-take, arith}
use Rattle.std.specs.Prelude.{Contains, AllPairs}
use Rattle.std.specs.List.{range_with_len}
use Rattle.std.proofs.lemmas.Bool.{cases_lt}
use Rattle.std.proofs.lemmas.List.{get_or-take, get_or_default, get_or_append_left, get_or-append-add, length-append}
use Rattle.std.proofs.lemmas.List.FromFn.{get_or-range_with_len, length-range_with_len}
use Rattle.std.proofs.lemmas.List.Elements.{Contains-append_left, Contains-append_right, Contains-append_cases, Contains-get_or}
use Rattle.gg_flat.specs.declared.piece.Driver.{Driver}
use Rattle.gg_flat.specs.declared.piece.Driver.TheVariants.{Input, Held, MemoryWord, ReadRegister, Computed}
use Rattle.gg_flat.specs.Line.{value_at}
use Rattle.gg_flat.specs.Circuit.{FlatCircuit, driver_at}
use Rattle.gg_flat.specs.Reads.{NamesSignal, Reads}
use Rattle.gg_flat.specs.Order.{IsOrder}
use Rattle.gg_flat.proofs.OrderLemmas.{stands-before}
use Rattle.gg_cut_split.proofs.ClosedLemmas.ListLemmas.{AllPairs-append}
use Rattle.gg_flat.proofs.RenamedLineLaws.{named-back}
use Rattle.gg_cut_reference.specs.Reference.{Views}
use Rattle.gg_cut_reference.specs.inside.Reference.{IsReference, IsSeen, IsPiped}
use Rattle.gg_flat.specs.Renaming.{renamed_driver, signals_by}

-- what a renamed driver names, by its name before
pub record IsNameOf (to : ℕ → ℕ) (Named : ℕ → Type 0) (u : ℕ) : Type 0 where
  pub before : ℕ
  pub named : Named before
  pub is : to before ≡ u

driver-name : (to : ℕ → ℕ) (driver : Driver) (u : ℕ) → NamesSignal (renamed_driver (signals_by to) driver) u → IsNameOf to (NamesSignal driver) u
driver-name to (Input place) u named = absurd named
driver-name to (Held register) u named = absurd named
driver-name to (MemoryWord memory reader addr en) u (inl e) = record { before = addr; named = inl refl; is = e }
driver-name to (MemoryWord memory reader addr en) u (inr e) = record { before = en; named = inr refl; is = e }
driver-name to (ReadRegister memory reader) u named = absurd named
driver-name to (Computed line) u named = let n = named-back to line u named in record { before = n.0; named = n.1; is = n.2 }

in-take : (list : List ℕ) (i j t : ℕ) → j < i → j < length list → value_at list j ≡ t → Contains (take i list) t
in-take list i j t less lt e = (j, omega (arith, less, lt, length-take i list), get_or-take i list j t less ∙ get_or_default list j t 0 lt ∙ e)

module _ (one all : FlatCircuit) (views : Views) (pipes order : List ℕ) (reference : IsReference one all views pipes) (seen : (m : ℕ) → IsSeen one pipes (views.seen m)) (ordered : IsOrder one order) where
  abbrev numbers : List ℕ
  numbers = range_with_len (length one.signals) (length pipes)

  count : length (range_with_len (length one.signals) (length pipes)) ≡ length pipes
  count = length-range_with_len (length one.signals) (length pipes)

  number : (k d : ℕ) → k < length pipes → get_or (range_with_len (length one.signals) (length pipes)) k d ≡ length one.signals + k
  number k d lt = get_or-range_with_len (length one.signals) (length pipes) k d lt

  pipe-in : (k : ℕ) → k < length pipes → Contains (range_with_len (length one.signals) (length pipes)) (length one.signals + k)
  pipe-in k lt = (k, omega (arith, lt, count), number k (length one.signals + k) lt)

  pipe-out : (t : ℕ) → Contains (range_with_len (length one.signals) (length pipes)) t → (length one.signals ≤ t) × (t < length one.signals + length pipes)
  pipe-out t h =
      let lt : h.0 < length pipes = omega (arith, h.1, count) in
      let is = sym (number h.0 t lt) ∙ h.2 in
      (omega (arith, is), omega (arith, is, lt))

  pub reference_ordered : IsOrder all (range_with_len (length one.signals) (length pipes) ++ order)
  reference_ordered =
      record {
        signals = λ i lt. known (value_at (range_with_len (length one.signals) (length pipes) ++ order) i) (Contains-append_cases numbers order (value_at (numbers ++ order) i) (Contains-get_or (numbers ++ order) i 0 lt));
        once = AllPairs-append (λ a b. a ≢ b) numbers order numbers-once ordered.once (λ a b p q same.
            let high = (pipe-out a p).0 in
            let low = ordered.signals q.0 q.1 in
            let at = get_or_default order q.0 0 b q.1 ∙ q.2 in
            omega (arith, high, low, same, at));
        every = λ s lt. by s lt (cases_lt s (length one.signals));
        after = λ i s lt reads. after i s lt reads (cases_lt i (length pipes));
      }
    where
      known : (t : ℕ) → Contains numbers t ⊎ Contains order t → t < length all.signals
      known t (inl h) = let high = (pipe-out t h).1 in omega (arith, high, reference.signals)
      known t (inr h) = let low = ordered.signals h.0 h.1 in let at = get_or_default order h.0 0 t h.1 ∙ h.2 in omega (arith, low, at, reference.signals)

      numbers-once : AllPairs (λ a b. a ≢ b) (range_with_len (length one.signals) (length pipes))
      numbers-once i j d less lt same =
          let second : j < length pipes = omega (arith, lt, count) in
          let first : i < length pipes = omega (arith, less, second) in
          let a = number i d first in
          let b = number j d second in
          omega (arith, a, b, same, less)

      by : (s : ℕ) → s < length all.signals → (s < length one.signals) ⊎ (length one.signals ≤ s) → Contains (numbers ++ order) s
      by s lt (inl low) = Contains-append_right numbers order s (ordered.every s low)
      by s lt (inr high) =
          let k = s - length one.signals in
          let less : k < length pipes = omega (arith, lt, high, reference.signals) in
          let is : length one.signals + k ≡ s = omega (arith, high) in
          Contains-append_left numbers order s (subst (λ t. Contains numbers t) is (pipe-in k less))

      in-order : (i q t : ℕ) → i ≡ length pipes + q → Contains (take q order) t → Contains (take i (numbers ++ order)) t
      in-order i q t e h =
          let at = stands-before order q t h in
          let place = at.place in
          let before = at.before in
          let within = at.within in
          let spot : length pipes + place < length (numbers ++ order) = omega (arith, within, length-append numbers order, count) in
          in-take (numbers ++ order) i (length pipes + place) t (omega (arith, e, before)) spot
          (ap (λ n. value_at (numbers ++ order) (n + place)) (sym count) ∙ get_or-append-add numbers order place 0 ∙ at.is)

      in-pipes : (i k : ℕ) → length pipes ≤ i → k < length pipes → Contains (take i (numbers ++ order)) (length one.signals + k)
      in-pipes i k high lt =
          let spot : k < length (numbers ++ order) = omega (arith, lt, length-append numbers order, count) in
          in-take (numbers ++ order) i k (length one.signals + k) (omega (arith, high, lt)) spot
          (get_or_append_left numbers order 0 k (omega (arith, lt, count)) ∙ number k 0 lt)

      place-of : (i q t u m : ℕ) → i ≡ length pipes + q → views.seen m t ≡ u → Contains (take q order) t → (views.seen m t ≡ t) ⊎ IsPiped one pipes t (views.seen m t) → Contains (take i (numbers ++ order)) u
      place-of i q t u m e is h (inl same) = in-order i q u e (subst (λ v. Contains (take q order) v) (sym same ∙ is) h)
      place-of i q t u m e is h (inr p) = subst (λ v. Contains (take i (numbers ++ order)) v) (sym p.is ∙ is) (in-pipes i p.pipe (omega (arith, e)) p.known)

      after : (i s : ℕ) → i < length (numbers ++ order) → Reads all (value_at (numbers ++ order) i) s → (i < length pipes) ⊎ (length pipes ≤ i) → Contains (take i (numbers ++ order)) s
      after i s lt reads (inl low) =
          let at : value_at (numbers ++ order) i ≡ length one.signals + i = get_or_append_left numbers order 0 i (omega (arith, low, count)) ∙ number i 0 low in
          let none : NamesSignal (Held (length one.registers + i)) s = subst (λ d. NamesSignal d s) (ap (driver_at all) at ∙ reference.pipe_driver i low) reads.names in
          absurd none
      after i s lt reads (inr high) =
          let q = i - length pipes in
          let e : i ≡ length pipes + q = omega (arith, high) in
          let a = value_at order q in
          let at : value_at (numbers ++ order) i ≡ a = ap (λ n. value_at (numbers ++ order) n) e ∙ ap (λ n. value_at (numbers ++ order) (n + q)) (sym count) ∙ get_or-append-add numbers order q 0 in
          let inside : q < length order = omega (arith, lt, e, length-append numbers order, count) in
          let known = ordered.signals q inside in
          let named = subst (λ d. NamesSignal d s) (ap (driver_at all) at ∙ reference.drivers a known) reads.names in
          let n = driver-name (views.seen (views.maker a)) (driver_at one a) s named in
          place-of i q n.before s (views.maker a) e n.is (ordered.after q n.before inside (record { signal = known; names = n.named })) (seen (views.maker a) n.before)
