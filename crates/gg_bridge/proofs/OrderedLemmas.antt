-- The circuit with a model has an order of evaluation: first what reaches no input of the model, then the circuit, then the rest.
use Rattle.std.proofs.Common.{◌≡◌, ◌≢◌, ℕ, zero, suc, ◌+◌, ◌-◌, ◌<◌, ◌≤◌, List, [], ◌++◌, length, map, take, get_or, Bool, true, false, true≢false, not, Option, Some, None, refl, sym, ◌∙◌, ap, subst, inl, inr, ◌⊎◌, arith}
use Rattle.std.specs.Prelude.{filter, Contains, AllPairs}
use Rattle.std.proofs.lemmas.Bool.{cases_lt, cases_Bool}
use Rattle.std.proofs.lemmas.List.{get_or-map, get_or_default, get_or_append_left, get_or-append-add, length-append, length-map}
use Rattle.std.proofs.lemmas.List.Elements.{Contains-append_left, Contains-append_right, Contains-append_cases, Contains-get_or}
use Rattle.std.proofs.lemmas.List.Kept.{AllPairs-filter}
use Rattle.gg_bits.specs.declared.types.Ty.{Ty}
use Rattle.gg_flat.specs.declared.piece.Driver.{Driver}
use Rattle.gg_flat.specs.declared.piece.Driver.TheVariants.{Input, Held, MemoryWord, ReadRegister, Computed}
use Rattle.gg_flat.specs.Line.{value_at}
use Rattle.gg_flat.specs.Circuit.{FlatCircuit, driver_at}
use Rattle.gg_flat.specs.Reads.{Names, NamesSignal, Reads}
use Rattle.gg_flat.specs.Order.{IsOrder}
use Rattle.gg_flat.specs.WellFormed.{IsWellFormed, MayDrive}
use Rattle.gg_flat.proofs.ListLemmas.{some-item, Contains-map, Contains-filter, filter-cases}
use Rattle.gg_flat.proofs.OrderLemmas.{stands-before, read-before, place-of}
use Rattle.gg_order.proofs.ReadLemmas.{names_within}
use Rattle.gg_flat.proofs.RenamedLineLaws.{named-back}
use Rattle.gg_bridge.specs.Model.{IsModel}
use Rattle.gg_bridge.specs.Joined.{place_among, without, globals_behind, held_behind, memories_behind, copy_line, left_at, driver_behind, joined}
use Rattle.gg_bridge.specs.inside.Joined.{linked_driver, CanJoin}
use Rattle.gg_bridge.proofs.NumberLemmas.{Tells, place-tells, behind}
use Rattle.gg_bridge.proofs.PairLemmas.{AllPairs-append, moved-once, moved-cases, in-take, filter-before}
use Rattle.gg_bridge.proofs.AtLemmas.{long, driver-old, driver-new}
use Rattle.gg_bridge.proofs.MarkLemmas.{is_free, input-bound, free-reads, free-apart}

-- ---- lists in which each signal stands after all that it reads, or that stand behind what it reads

abbrev pub Follows : FlatCircuit → List ℕ → List ℕ → Type 0
Follows circuit before list = (i t : ℕ) → i < length list → Reads circuit (value_at list i) t → Contains before t ⊎ Contains (take i list) t

pub follows-append : (circuit : FlatCircuit) (xs ys : List ℕ) → Follows circuit [] xs → Follows circuit xs ys → Follows circuit [] (xs ++ ys)
follows-append circuit xs ys a b i t lt reads = by (cases_lt i (length xs))
  where
    long : length (xs ++ ys) ≡ length xs + length ys
    long = length-append xs ys

    early : (j : ℕ) → j < i → j < length xs → value_at xs j ≡ t → Contains (take i (xs ++ ys)) t
    early j less within e = in-take (xs ++ ys) i j t less (omega (arith, within, long)) (get_or_append_left xs ys 0 j within ∙ e)

    by : (i < length xs) ⊎ (length xs ≤ i) → Contains [] t ⊎ Contains (take i (xs ++ ys)) t
    by (inl low) = at (a i t low (subst (λ s. Reads circuit s t) (get_or_append_left xs ys 0 i low) reads))
      where
        at : Contains [] t ⊎ Contains (take i xs) t → Contains [] t ⊎ Contains (take i (xs ++ ys)) t
        at (inl none) = absurd (omega (arith, none.1))
        at (inr h) = let before = stands-before xs i t h in inr (early before.place before.before before.within before.is)
    by (inr high) =
        let k = i - length xs in
        let back : length xs + k ≡ i = omega (arith, high) in
        let inside : k < length ys = omega (arith, lt, long, high) in
        let is : value_at (xs ++ ys) i ≡ value_at ys k = ap (value_at (xs ++ ys)) (sym back) ∙ get_or-append-add xs ys k 0 in
        at k back (b k t inside (subst (λ s. Reads circuit s t) is reads))
      where
        at : (k : ℕ) → length xs + k ≡ i → Contains xs t ⊎ Contains (take k ys) t → Contains [] t ⊎ Contains (take i (xs ++ ys)) t
        at k back (inl h) = inr (early h.0 (omega (arith, h.1, back)) h.1 (get_or_default xs h.0 0 t h.1 ∙ h.2))
        at k back (inr h) =
            let before = stands-before ys k t h in
            let place = before.place in
            let within = before.within in
            let less = before.before in
            inr (in-take (xs ++ ys) i (length xs + place) t (omega (arith, less, back)) (omega (arith, within, long)) (get_or-append-add xs ys place 0 ∙ before.is))

-- ---- what the drivers of the circuit with the model name

copy-named : (ty : Ty) (s t : ℕ) → Names (copy_line ty s) t → s ≡ t
copy-named ty s t (zero, lt, e) = cc
copy-named ty s t (suc k, lt, e) = absurd (omega (arith, lt))

-- a signal of the model names the signal that it is a copy of, or what its driver names
pub data NamedBehind (globals sees : List ℕ) (driver : Driver) (t : ℕ) : Type 0 where
  OfSeen : (place : ℕ) → driver ≡ Input place → value_at sees place ≡ t → NamedBehind globals sees driver t
  OfOwn : (b : ℕ) → NamesSignal driver b → value_at globals b ≡ t → NamedBehind globals sees driver t

named-behind : (globals held memories sees : List ℕ) (ty : Ty) (driver : Driver) (t : ℕ) → NamesSignal (driver_behind globals held memories sees ty driver) t → NamedBehind globals sees driver t
named-behind globals held memories sees ty (Input place) t named = OfSeen place refl (copy-named ty (value_at sees place) t named)
named-behind globals held memories sees ty (Held register) t named = absurd named
named-behind globals held memories sees ty (MemoryWord memory reader addr en) t (inl e) = OfOwn addr (inl refl) e
named-behind globals held memories sees ty (MemoryWord memory reader addr en) t (inr e) = OfOwn en (inr refl) e
named-behind globals held memories sees ty (ReadRegister memory reader) t named = absurd named
named-behind globals held memories sees ty (Computed line) t named = let n = named-back (value_at globals) line t named in OfOwn n.0 n.1 n.2

left-named : (left : Option ℕ) (driver : Driver) (t : ℕ) → NamesSignal (left_at left driver) t → NamesSignal driver t
left-named left (Input place) t named = named
left-named left (Held register) t named = named
left-named left (MemoryWord memory reader addr en) t named = named
left-named left (ReadRegister memory reader) t named = named
left-named left (Computed line) t named = named

module _ (one : FlatCircuit) (front : List ℕ) (model : FlatCircuit) (sees drives order : List ℕ) (can : CanJoin one front model sees drives) (formed : IsWellFormed one) (ordered : IsOrder one order) (is_model : IsModel model) where
  abbrev all : FlatCircuit
  all = joined one front model sees drives

  abbrev n : ℕ
  n = length one.signals

  abbrev free : ℕ → Bool
  free s = is_free model is_model.order is_model.formed is_model.ordered s

  abbrev bound : ℕ → Bool
  bound s = not (free s)

  abbrev early : List ℕ
  early = map (λ s. length one.signals + s) (filter free is_model.order)

  abbrev late : List ℕ
  late = map (λ s. length one.signals + s) (filter bound is_model.order)

  total : length (joined one front model sees drives).signals ≡ length one.signals + length model.signals
  total = long one front model sees drives

  inside : (test : ℕ → Bool) (i : ℕ) → i < length (filter test is_model.order) → value_at (filter test is_model.order) i < length model.signals
  inside test i lt =
      let h = (filter-cases test is_model.order (value_at (filter test is_model.order) i) (Contains-get_or (filter test is_model.order) i 0 lt)).among in
      let low = is_model.ordered.signals h.0 h.1 in
      let e = get_or_default is_model.order h.0 0 (value_at (filter test is_model.order) i) h.1 ∙ h.2 in
      omega (arith, low, e)

  -- what a signal of the model reads, in the circuit with the model
  reads-behind : (a t : ℕ) → a < length model.signals → Reads all (n + a) t → NamedBehind (globals_behind one model) sees (driver_at model a) t
  reads-behind a t lt reads =
      let any = some-item model.signals a lt in
      named-behind (globals_behind one model) (held_behind one model) (memories_behind one model) sees (get_or model.signals a any).ty (driver_at model a) t
      (subst (λ d. NamesSignal d t) (driver-new one front model sees drives a any lt) reads.names)

  at-own : (a b t : ℕ) → a < length model.signals → NamesSignal (driver_at model a) b → value_at (globals_behind one model) b ≡ t → t ≡ n + b
  at-own a b t lt named e = sym e ∙ behind (length one.signals) (length model.signals) b (names_within model a b is_model.formed lt named)

  -- signal b stands before the signal at place i of what a filter leaves
  before : (test : ℕ → Bool) (i a b : ℕ) → i < length (filter test is_model.order) → value_at (filter test is_model.order) i ≡ a → Reads model a b → test b ≡ true → Contains (take i (filter test is_model.order)) b
  before test i a b lt is reads holds =
      let at = place-of model is_model.order a is_model.ordered reads.signal in
      let first = read-before model is_model.order at.place a b is_model.ordered at.within at.is reads in
      filter-before test is_model.order i b first.place at.place is_model.ordered.once holds lt first.before at.within first.is (at.is ∙ sym is)

  moved-take : (list : List ℕ) (i b : ℕ) → Contains (take i list) b → Contains (take i (map (λ s. length one.signals + s) list)) (length one.signals + b)
  moved-take list i b h =
      let at = stands-before list i b h in
      let within = at.within in
      in-take (map (λ s. length one.signals + s) list) i at.place (length one.signals + b) at.before (omega (arith, within, length-map list (λ s. length one.signals + s)))
      (get_or-map (λ s. length one.signals + s) list at.place 0 0 within ∙ ap (λ s. length one.signals + s) at.is)

  early-in : (b : ℕ) → b < length model.signals → free b ≡ true → Contains early (n + b)
  early-in b lt holds = Contains-map (λ s. length one.signals + s) (filter free is_model.order) b (Contains-filter free is_model.order b (is_model.ordered.every b lt) holds)

  late-in : (b : ℕ) → b < length model.signals → bound b ≡ true → Contains late (n + b)
  late-in b lt holds = Contains-map (λ s. length one.signals + s) (filter bound is_model.order) b (Contains-filter bound is_model.order b (is_model.ordered.every b lt) holds)

  -- ---- the three lists

  follows-early : Follows all [] early
  follows-early i t lt reads =
      let low : i < length (filter free is_model.order) = omega (arith, lt, length-map (filter free is_model.order) (λ s. length one.signals + s)) in
      let a = value_at (filter free is_model.order) i in
      let known = inside free i low in
      let holds = (filter-cases free is_model.order a (Contains-get_or (filter free is_model.order) i 0 low)).passes in
      by i a low known holds refl (reads-behind a t known (subst (λ s. Reads all s t) (get_or-map (λ s. length one.signals + s) (filter free is_model.order) i 0 0 low) reads))
    where
      by : (i a : ℕ) → i < length (filter free is_model.order) → a < length model.signals → free a ≡ true → value_at (filter free is_model.order) i ≡ a → NamedBehind (globals_behind one model) sees (driver_at model a) t → Contains [] t ⊎ Contains (take i early) t
      by i a low known holds is (OfSeen place e seen) = absurd (input-bound model is_model.order is_model.formed is_model.ordered a place known e holds)
      by i a low known holds is (OfOwn b named e) =
          let reads : Reads model a b = record { signal = known; names = named } in
          let then = free-reads model is_model.order is_model.formed is_model.ordered a b holds reads in
          inr (subst (Contains (take i early)) (sym (at-own a b t known named e)) (moved-take (filter free is_model.order) i b (before free i a b low is reads then)))

  out-free : (i : ℕ) → i < length model.outs → free (value_at model.outs i) ≡ true
  out-free i lt =
      free-apart model is_model.order is_model.formed is_model.ordered (value_at model.outs i) (λ signal among reaches. is_model.apart (value_at model.outs i) signal (Contains-get_or model.outs i 0 lt) among reaches)

  follows-order : Follows all early order
  follows-order i t lt reads =
      let s = value_at order i in
      let low = ordered.signals i lt in
      let any = some-item one.signals s low in
      by (place_among drives s) (place-tells drives s) (get_or one.signals s any).ty (subst (λ d. NamesSignal d t) (driver-old one front model sees drives s any low) reads.names)
    where
      by : (o : Option ℕ) → Tells drives (value_at order i) o → (ty : Ty) → NamesSignal (linked_driver (map (value_at (globals_behind one model)) model.outs) (without drives one.ins) (value_at order i) ty (driver_at one (value_at order i)) o) t → Contains early t ⊎ Contains (take i order) t
      by None tells ty named =
          inr (ordered.after i t lt (record { signal = ordered.signals i lt; names = left-named (place_among (without drives one.ins) (value_at order i)) (driver_at one (value_at order i)) t named }))
      by (Some k) tells ty named =
          let low : k < length model.outs = (let lo = tells.0 in omega (arith, lo, can.driven_count)) in
          let out = value_at model.outs k in
          let known = is_model.formed.outs k low in
          let is : n + out ≡ t =
          sym (get_or-map (value_at (globals_behind one model)) model.outs k 0 0 low ∙ behind (length one.signals) (length model.signals) out known)
          ∙ copy-named ty (value_at (map (value_at (globals_behind one model)) model.outs) k) t named in
          inl (subst (Contains early) is (early-in out known (out-free k low)))

  follows-late : Follows all (early ++ order) late
  follows-late i t lt reads =
      let low : i < length (filter bound is_model.order) = omega (arith, lt, length-map (filter bound is_model.order) (λ s. length one.signals + s)) in
      let a = value_at (filter bound is_model.order) i in
      let known = inside bound i low in
      by i a low known refl (reads-behind a t known (subst (λ s. Reads all s t) (get_or-map (λ s. length one.signals + s) (filter bound is_model.order) i 0 0 low) reads))
    where
      by : (i a : ℕ) → i < length (filter bound is_model.order) → a < length model.signals → value_at (filter bound is_model.order) i ≡ a → NamedBehind (globals_behind one model) sees (driver_at model a) t → Contains (early ++ order) t ⊎ Contains (take i late) t
      by i a low known is (OfSeen place e seen) =
          let may = subst (MayDrive model a) e (is_model.formed.drivers a known) in
          let fits : place < length sees = (let k = may.0 in omega (arith, k, can.seen_count)) in
          inl (Contains-append_right early order t (ordered.every t (subst (λ s. s < length one.signals) seen (can.seen place fits))))
      by i a low known is (OfOwn b named e) = own (cases_Bool (free b))
        where
          read : Reads model a b
          read = record { signal = known; names = named }

          same : t ≡ n + b
          same = at-own a b t known named e

          own : (free b ≡ true) ⊎ (free b ≡ false) → Contains (early ++ order) t ⊎ Contains (take i late) t
          own (inl holds) = inl (Contains-append_left early order t (subst (Contains early) (sym same) (early-in b (names_within model a b is_model.formed known named) holds)))
          own (inr fails) = inr (subst (Contains (take i late)) (sym same) (moved-take (filter bound is_model.order) i b (before bound i a b low is read (ap not fails))))

  -- ---- the order

  once-kept : (test : ℕ → Bool) → AllPairs (λ a b. a ≢ b) (map (λ s. length one.signals + s) (filter test is_model.order))
  once-kept test = moved-once (length one.signals) (filter test is_model.order) (AllPairs-filter (λ a b. a ≢ b) test is_model.order is_model.ordered.once)

  -- a moved signal is a signal of the model
  moved-high : (test : ℕ → Bool) (t : ℕ) → Contains (map (λ s. length one.signals + s) (filter test is_model.order)) t → (b : ℕ) × (b < length model.signals) × (n + b ≡ t) × (test b ≡ true)
  moved-high test t h =
      let m = moved-cases (length one.signals) (filter test is_model.order) t h in
      let kept = filter-cases test is_model.order m.0 m.1 in
      let among = kept.among in
      let low = is_model.ordered.signals among.0 among.1 in
      let e = get_or_default is_model.order among.0 0 m.0 among.1 ∙ among.2 in
      (m.0, omega (arith, low, e), m.2, kept.passes)

  order-low : (t : ℕ) → Contains order t → t < length one.signals
  order-low t h = (let low = ordered.signals h.0 h.1 in let e = get_or_default order h.0 0 t h.1 ∙ h.2 in omega (arith, low, e))

  abbrev pub joined_order : List ℕ
  joined_order = (early ++ order) ++ late

  pub whole-ordered : IsOrder (joined one front model sees drives) joined_order
  whole-ordered =
      record {
        signals = λ i lt. known (value_at joined_order i) (Contains-append_cases (early ++ order) late (value_at joined_order i) (Contains-get_or joined_order i 0 lt));
        once = AllPairs-append (λ a b. a ≢ b) (early ++ order) late
            (AllPairs-append (λ a b. a ≢ b) early order (once-kept free) ordered.once (λ a b p q same.
            let high = moved-high free a p in
            let low = order-low b q in
            let e = high.2 in
            omega (arith, e, low, same)))
            (once-kept bound)
            (λ a b p q. apart a b q (Contains-append_cases early order a p));
        every = λ s lt. every s lt (cases_lt s (length one.signals));
        after = λ i s lt reads. only s i (follows-append all (early ++ order) late (follows-append all early order follows-early follows-order) follows-late i s lt reads);
      }
    where
      known : (t : ℕ) → Contains (early ++ order) t ⊎ Contains late t → t < length all.signals
      known t (inl h) = by (Contains-append_cases early order t h)
        where
          by : Contains early t ⊎ Contains order t → t < length all.signals
          by (inl p) = (let high = moved-high free t p in let low = high.1 in let e = high.2 in omega (arith, low, e, total))
          by (inr q) = (let low = order-low t q in omega (arith, low, total))
      known t (inr h) = (let high = moved-high bound t h in let low = high.1 in let e = high.2 in omega (arith, low, e, total))

      apart : (a b : ℕ) → Contains late b → Contains early a ⊎ Contains order a → a ≢ b
      apart a b q (inl p) same =
          let x = moved-high free a p in
          let y = moved-high bound b q in
          let ex = x.2 in
          let ey = y.2 in
          let e : x.0 ≡ y.0 = omega (arith, ex, ey, same) in
          true≢false (sym (subst (λ k. free k ≡ true) e x.3) ∙ flip (free y.0) y.3)
        where
          flip : (b : Bool) → not b ≡ true → b ≡ false
          flip true e = sym e
          flip false e = refl
      apart a b q (inr p) same = (let y = moved-high bound b q in let ey = y.2 in let low = order-low a p in omega (arith, ey, low, same))

      every : (s : ℕ) → s < length all.signals → (s < length one.signals) ⊎ (length one.signals ≤ s) → Contains joined_order s
      every s lt (inl low) = Contains-append_left (early ++ order) late s (Contains-append_right early order s (ordered.every s low))
      every s lt (inr high) =
          let b = s - length one.signals in
          let low : b < length model.signals = omega (arith, lt, high, total) in
          let is : n + b ≡ s = (let e : length one.signals + b ≡ s = omega (arith, high) in e) in
          by b low is (cases_Bool (free b))
        where
          by : (b : ℕ) → b < length model.signals → n + b ≡ s → (free b ≡ true) ⊎ (free b ≡ false) → Contains joined_order s
          by b low is (inl holds) = Contains-append_left (early ++ order) late s (Contains-append_left early order s (subst (Contains early) is (early-in b low holds)))
          by b low is (inr fails) = Contains-append_right (early ++ order) late s (subst (Contains late) is (late-in b low (ap not fails)))

      only : (s i : ℕ) → Contains [] s ⊎ Contains (take i joined_order) s → Contains (take i joined_order) s
      only s i (inl none) = absurd (omega (arith, none.1))
      only s i (inr h) = h
