-- The order that is found is one, if the circuit is well formed and has no combinational loop.
use Rattle.std.proofs.Common.{◌≡◌, ◌≢◌, ℕ, zero, suc, ◌+◌, ◌-◌, ◌<◌, ◌≤◌, List, [], ◌∷◌, ◌++◌, Bool, true, false, true≢false, length, get_or, map, take, drop, refl, sym, ◌∙◌, ap, subst, inl, inr, ◌⊎◌, arith}
use Rattle.std.specs.Prelude.{All, AllPairs, Contains, not, ◌&&◌, filter}
use Rattle.std.specs.List.{list_all, range_with_len}
use Rattle.std.proofs.lemmas.Bool.{and_parts, cases_lt, cases_Bool}
use Rattle.std.proofs.lemmas.List.{get_or-append-add, get_or-drop, get_or_append_left, get_or_default, get_or-take, length-append, length-drop, length-take}
use Rattle.std.proofs.lemmas.List.Elements.{All-append, All-contains, Contains-push, Contains-append_cases, Contains-append_left, Contains-append_right, Contains-get_or}
use Rattle.std.proofs.lemmas.List.Kept.{AllPairs-cons, AllPairs-filter}
use Rattle.gg_flat.specs.declared.line.Node.{Node}
use Rattle.gg_flat.specs.declared.line.Op.{Op}
use Rattle.gg_flat.specs.declared.line.Op.TheVariants.{Ref, Literal, One, Two, Fix, Mux}
use Rattle.gg_flat.specs.declared.piece.Driver.{Driver}
use Rattle.gg_flat.specs.declared.piece.Driver.TheVariants.{Input, Held, MemoryWord, ReadRegister, Computed}
use Rattle.gg_flat.specs.Circuit.{FlatCircuit, driver_at}
use Rattle.gg_flat.specs.Line.{value_at}
use Rattle.gg_flat.specs.Order.{IsOrder}
use Rattle.gg_flat.specs.Reads.{IsLoop, NamesSignal, Names, Reads}
use Rattle.gg_flat.specs.WellFormed.{IsWellFormed}
use Rattle.gg_flat.proofs.ListLemmas.{here, further, Contains-cases, Contains-filter, filter-cases, in-range, range-below}
use Rattle.gg_flat.proofs.OrderLemmas.{stands-before}
use Rattle.gg_graph.specs.Graph.{IsRing}
use Rattle.gg_graph.specs.inside.Walk.{IsChain}
use Rattle.gg_graph.proofs.RingLemmas.{GoesRound-end, IsChain-push, once-drop}
use Rattle.gg_order.specs.Found.{op_names, line_names, reads_of, is_placed, is_ready, placed_after, found_order}
use Rattle.gg_order.proofs.LoopLemmas.{IsLoop-ring}
use Rattle.gg_order.proofs.NumberLemmas.{AllPairs-append, any-has, any-is, behind-once, length-once}
use Rattle.gg_order.proofs.ReadLemmas.{names_within}

-- ---- what a driver reads

op-is : (op : Op) (t : ℕ) → Contains (op_names op) t → op ≡ Ref t
op-is (Ref s) t h = by (Contains-cases s t [] h)
  where
    by : (s ≡ t) ⊎ Contains [] t → Ref s ≡ Ref t
    by (inl same) = ap Ref same
    by (inr none) = absurd (omega (arith, none.1))
op-is (Literal value) t h = absurd (omega (arith, h.1))
op-is (One op i) t h = absurd (omega (arith, h.1))
op-is (Two op i j) t h = absurd (omega (arith, h.1))
op-is (Fix op i n m) t h = absurd (omega (arith, h.1))
op-is (Mux c i j) t h = absurd (omega (arith, h.1))

names-in : (line : List Node) (t : ℕ) → Names line t → Contains (line_names line) t
names-in [] t h = absurd (omega (arith, h.1))
names-in (node ∷ line) t h = by (Contains-cases node.op (Ref t) (map (λ (n : Node). n.op) line) h) (λ rest. names-in line t rest)
  where
    by : (node.op ≡ Ref t) ⊎ Names line t → (Names line t → Contains (line_names line) t) → Contains (op_names node.op ++ line_names line) t
    by (inl same) more = subst (λ (op : Op). Contains (op_names op ++ line_names line) t) (sym same) (here t (line_names line))
    by (inr rest) more = Contains-append_right (op_names node.op) (line_names line) t (more rest)

names-out : (line : List Node) (t : ℕ) → Contains (line_names line) t → Names line t
names-out [] t h = absurd (omega (arith, h.1))
names-out (node ∷ line) t h = by (Contains-append_cases (op_names node.op) (line_names line) t h) (λ rest. names-out line t rest)
  where
    by : Contains (op_names node.op) t ⊎ Contains (line_names line) t → (Contains (line_names line) t → Names line t) → Names (node ∷ line) t
    by (inl own) next = (0, omega arith, op-is node.op t own)
    by (inr rest) next = let more = next rest in (suc more.0, omega (arith, more.1), more.2)

reads-in : (driver : Driver) (t : ℕ) → NamesSignal driver t → Contains (reads_of driver) t
reads-in (Input place) t h = absurd h
reads-in (Held register) t h = absurd h
reads-in (MemoryWord memory reader addr en) t (inl same) = (0, omega arith, same)
reads-in (MemoryWord memory reader addr en) t (inr same) = (1, omega arith, same)
reads-in (ReadRegister memory reader) t h = absurd h
reads-in (Computed line) t h = names-in line t h

reads-out : (driver : Driver) (t : ℕ) → Contains (reads_of driver) t → NamesSignal driver t
reads-out (Input place) t h = absurd (omega (arith, h.1))
reads-out (Held register) t h = absurd (omega (arith, h.1))
reads-out (MemoryWord memory reader addr en) t h = by (Contains-cases addr t (en ∷ []) h)
  where
    by : (addr ≡ t) ⊎ Contains (en ∷ []) t → (addr ≡ t) ⊎ (en ≡ t)
    by (inl same) = inl same
    by (inr rest) = at (Contains-cases en t [] rest)
      where
        at : (en ≡ t) ⊎ Contains [] t → (addr ≡ t) ⊎ (en ≡ t)
        at (inl same) = inr same
        at (inr none) = absurd (omega (arith, none.1))
reads-out (ReadRegister memory reader) t h = absurd (omega (arith, h.1))
reads-out (Computed line) t h = names-out line t h

-- ---- tests of all items

all-at : (test : ℕ → Bool) (xs : List ℕ) (x : ℕ) → list_all test xs ≡ true → Contains xs x → test x ≡ true
all-at test [] x e h = absurd (omega (arith, h.1))
all-at test (y ∷ ys) x e h = by (Contains-cases y x ys h) (λ rest. all-at test ys x (and_parts (test y) (list_all test ys) e).1 rest)
  where
    by : (y ≡ x) ⊎ Contains ys x → (Contains ys x → test x ≡ true) → test x ≡ true
    by (inl same) more = ap test (sym same) ∙ (and_parts (test y) (list_all test ys) e).0
    by (inr rest) more = more rest

all-true : (test : ℕ → Bool) (xs : List ℕ) → ((x : ℕ) → Contains xs x → test x ≡ true) → list_all test xs ≡ true
all-true test [] each = refl
all-true test (y ∷ ys) each =
    ap (λ (b : Bool). b && list_all test ys) (each y (here y ys)) ∙ all-true test ys (λ x h. each x (suc h.0, omega (arith, h.1), h.2))

-- an item that fails a test
record Fails (test : ℕ → Bool) (xs : List ℕ) : Type 0 where
  item : ℕ
  among : Contains xs item
  fails : test item ≡ false

some-fails : (test : ℕ → Bool) (xs : List ℕ) → list_all test xs ≡ false → Fails test xs
some-fails test [] e = absurd (true≢false e)
some-fails test (y ∷ ys) e = by (test y) refl e (some-fails test ys)
  where
    by : (b : Bool) → test y ≡ b → (b && list_all test ys) ≡ false → (list_all test ys ≡ false → Fails test ys) → Fails test (y ∷ ys)
    by true is rest more = let found = more rest in record { item = found.item; among = further y ys found.item found.among; fails = found.fails }
    by false is rest more = record { item = y; among = here y ys; fails = is }

-- what stands before place i
in-take : (xs : List ℕ) (i k s : ℕ) → k < i → k < length xs → value_at xs k ≡ s → Contains (take i xs) s
in-take xs i k s less within is = (k, omega (arith, less, within, length-take i xs), get_or-take i xs k s less ∙ sym (get_or_default xs k 0 s within) ∙ is)

-- ---- rounds

module _ (circuit : FlatCircuit) where
  abbrev fresh : ℕ → List ℕ
  fresh n = filter (is_ready circuit (placed_after circuit n)) (range_with_len 0 (length circuit.signals))

  -- a signal that is ready
  record IsReady (placed : List ℕ) (s : ℕ) : Type 0 where
    pub new : Contains placed s → ⊥
    pub reads : (t : ℕ) → NamesSignal (driver_at circuit s) t → Contains placed t

  ready-is : (placed : List ℕ) (s : ℕ) → is_ready circuit placed s ≡ true → IsReady placed s
  ready-is placed s e =
      let parts = and_parts (not (is_placed placed s)) (list_all (is_placed placed) (reads_of (driver_at circuit s))) e in
      record {
        new = λ h. absurd (true≢false (sym parts.0 ∙ ap not (any-has placed s h)));
        reads = λ t names. any-is placed t (all-at (is_placed placed) (reads_of (driver_at circuit s)) t parts.1 (reads-in (driver_at circuit s) t names));
      }

  ready-in : (placed : List ℕ) (s : ℕ) → is_placed placed s ≡ false → ((t : ℕ) → NamesSignal (driver_at circuit s) t → Contains placed t) → is_ready circuit placed s ≡ true
  ready-in placed s new reads =
      ap (λ (b : Bool). not b && list_all (is_placed placed) (reads_of (driver_at circuit s))) new
      ∙ all-true (is_placed placed) (reads_of (driver_at circuit s)) (λ t h. any-has placed t (reads t (reads-out (driver_at circuit s) t h)))

  -- a signal of a round
  fresh-is : (n s : ℕ) → Contains (fresh n) s → (s < length circuit.signals) × IsReady (placed_after circuit n) s
  fresh-is n s h =
      let kept = filter-cases (is_ready circuit (placed_after circuit n)) (range_with_len 0 (length circuit.signals)) s h in
      (range-below (length circuit.signals) s kept.among, ready-is (placed_after circuit n) s kept.passes)

  placed-low : (n s : ℕ) → Contains (placed_after circuit n) s → s < length circuit.signals
  placed-low zero s h = absurd (omega (arith, h.1))
  placed-low (suc n) s h = by (Contains-append_cases (placed_after circuit n) (fresh n) s h) (λ old. placed-low n s old)
    where
      by : Contains (placed_after circuit n) s ⊎ Contains (fresh n) s → (Contains (placed_after circuit n) s → s < length circuit.signals) → s < length circuit.signals
      by (inl old) more = more old
      by (inr new) more = (fresh-is n s new).0

  placed-once : (n : ℕ) → AllPairs (λ a b. a ≢ b) (placed_after circuit n)
  placed-once zero = λ i j d less lt same. absurd (omega (arith, lt))
  placed-once (suc n) =
      AllPairs-append (λ a b. a ≢ b) (placed_after circuit n) (fresh n) (placed-once n)
      (AllPairs-filter (λ a b. a ≢ b) (is_ready circuit (placed_after circuit n)) (range_with_len 0 (length circuit.signals)) (behind-once 0 (length circuit.signals)))
      (λ x y a b same. (fresh-is n y b).1.new (subst (Contains (placed_after circuit n)) same a))

  stays : (n m s : ℕ) → n ≤ m → Contains (placed_after circuit n) s → Contains (placed_after circuit m) s
  stays n zero s le h = subst (λ k. Contains (placed_after circuit k) s) (let same : n ≡ 0 = omega (arith, le) in same) h
  stays n (suc m) s le h = by (cases_lt m n) (λ more. stays n m s more h)
    where
      by : (m < n) ⊎ (n ≤ m) → (n ≤ m → Contains (placed_after circuit m) s) → Contains (placed_after circuit (suc m)) s
      by (inl less) rest = subst (λ k. Contains (placed_after circuit k) s) (let same : n ≡ suc m = omega (arith, le, less) in same) h
      by (inr more) rest = Contains-append_left (placed_after circuit m) (fresh m) s (rest more)

  -- a signal whose reads are placed is placed in the next round
  next : (n s : ℕ) → s < length circuit.signals → ((t : ℕ) → NamesSignal (driver_at circuit s) t → Contains (placed_after circuit n) t) → Contains (placed_after circuit (suc n)) s
  next n s low reads = by (cases_Bool (is_placed (placed_after circuit n) s))
    where
      by : (is_placed (placed_after circuit n) s ≡ true) ⊎ (is_placed (placed_after circuit n) s ≡ false) → Contains (placed_after circuit n ++ fresh n) s
      by (inl old) = Contains-append_left (placed_after circuit n) (fresh n) s (any-is (placed_after circuit n) s old)
      by (inr new) =
          Contains-append_right (placed_after circuit n) (fresh n) s
          (Contains-filter (is_ready circuit (placed_after circuit n)) (range_with_len 0 (length circuit.signals)) s (in-range (length circuit.signals) s low) (ready-in (placed_after circuit n) s new reads))

  placed-after : (n i s : ℕ) → i < length (placed_after circuit n) → Reads circuit (value_at (placed_after circuit n) i) s → Contains (take i (placed_after circuit n)) s
  placed-after zero i s lt reads = absurd (omega (arith, lt))
  placed-after (suc n) i s lt reads = by (cases_lt i (length (placed_after circuit n))) (λ low earlier. placed-after n i s low earlier)
    where
      by : (i < length (placed_after circuit n)) ⊎ (length (placed_after circuit n) ≤ i) → (i < length (placed_after circuit n) → Reads circuit (value_at (placed_after circuit n) i) s → Contains (take i (placed_after circuit n)) s) → Contains (take i (placed_after circuit n ++ fresh n)) s
      by (inl low) more =
          let at = stands-before (placed_after circuit n) i s (more low (subst (λ x. Reads circuit x s) (get_or_append_left (placed_after circuit n) (fresh n) 0 i low) reads)) in
          in-take (placed_after circuit n ++ fresh n) i at.place s at.before (omega (arith, at.within, length-append (placed_after circuit n) (fresh n))) (get_or_append_left (placed_after circuit n) (fresh n) 0 at.place at.within ∙ at.is)
      by (inr high) more =
          let j = i - length (placed_after circuit n) in
          let inside : j < length (fresh n) = omega (arith, lt, high, length-append (placed_after circuit n) (fresh n)) in
          let same : length (placed_after circuit n) + j ≡ i = omega (arith, high) in
          let is : value_at (placed_after circuit n ++ fresh n) i ≡ value_at (fresh n) j = ap (value_at (placed_after circuit n ++ fresh n)) (sym same) ∙ get_or-append-add (placed_after circuit n) (fresh n) j 0 in
          let ready = (fresh-is n (value_at (fresh n) j) (Contains-get_or (fresh n) j 0 inside)).1 in
          let found = ready.reads s (subst (λ x. NamesSignal (driver_at circuit x) s) is reads.names) in
          let within : found.0 < length (placed_after circuit n) = found.1 in
          in-take (placed_after circuit n ++ fresh n) i found.0 s (omega (arith, within, high)) (omega (arith, within, length-append (placed_after circuit n) (fresh n)))
          (get_or_append_left (placed_after circuit n) (fresh n) 0 found.0 within ∙ get_or_default (placed_after circuit n) found.0 0 s within ∙ found.2)

  -- ---- no loop says that all are placed

  placed-below : (n : ℕ) → All (λ s. s < length circuit.signals) (placed_after circuit n)
  placed-below n i d lt = placed-low n (get_or (placed_after circuit n) i d) (Contains-get_or (placed_after circuit n) i d lt)

  -- a signal that isn't placed reads one that isn't, if a round places none
  record Waits (placed : List ℕ) (s : ℕ) : Type 0 where
    read : ℕ
    reads : Reads circuit s read
    low : read < length circuit.signals
    waits : is_placed placed read ≡ false

  module _ (formed : IsWellFormed circuit) (free : (loop : List ℕ) → ¬ IsLoop circuit loop) (n : ℕ) (still : fresh n ≡ []) where
    abbrev placed : List ℕ
    placed = placed_after circuit n

    waits : (s : ℕ) → s < length circuit.signals → is_placed placed s ≡ false → Waits placed s
    waits s low new = by (list_all (is_placed placed) (reads_of (driver_at circuit s))) refl
      where
        by : (b : Bool) → list_all (is_placed placed) (reads_of (driver_at circuit s)) ≡ b → Waits placed s
        by true e =
            let ready : is_ready circuit placed s ≡ true = ap (λ (b : Bool). not b && list_all (is_placed placed) (reads_of (driver_at circuit s))) new ∙ e in
            let none = subst (λ xs. Contains xs s) still (Contains-filter (is_ready circuit placed) (range_with_len 0 (length circuit.signals)) s (in-range (length circuit.signals) s low) ready) in
            absurd (omega (arith, none.1))
        by false e =
            let found = some-fails (is_placed placed) (reads_of (driver_at circuit s)) e in
            let names = reads-out (driver_at circuit s) found.item found.among in
            record {
              read = found.item;
              reads = record { signal = low; names = names };
              low = names_within circuit s found.item formed low names;
              waits = found.fails;
            }

    -- a path of distinct signals that aren't placed: each reads the next
    record Path : Type 0 where
      front : List ℕ
      last : ℕ
      chain : IsChain (Reads circuit) (front ++ last ∷ [])
      once : AllPairs (λ a b. a ≢ b) (front ++ last ∷ [])
      low : All (λ s. s < length circuit.signals) (front ++ last ∷ [])
      waiting : is_placed (placed_after circuit n) last ≡ false

    abbrev on : Path → List ℕ
    on path = path.front ++ path.last ∷ []

    -- one signal more: were it on the path, the path from there on would be a loop
    longer : (path : Path) → (more : Path) × (length more.front ≡ suc (length path.front))
    longer path = by (is_placed (on path) next.read) refl
      where
        last-low : path.last < length circuit.signals
        last-low = All-contains (λ s. s < length circuit.signals) (on path) path.last path.low (Contains-push path.front path.last)

        next : Waits (placed_after circuit n) path.last
        next = waits path.last last-low path.waiting

        grown : length (on path) ≡ suc (length path.front)
        grown = omega (arith, length-append path.front (path.last ∷ []))

        ring : (k : ℕ) → k < length (on path) → get_or (on path) k next.read ≡ next.read → IsRing (Reads circuit) (length circuit.signals) (drop k (on path))
        ring k lt is =
            record {
              nodes = λ i within.
                  subst (λ s. s < length circuit.signals) (sym (get_or-drop k (on path) i 0))
                  (path.low (k + i) 0 (omega (arith, within, length-drop k (on path))));
              once = once-drop k (on path) path.once;
              round = GoesRound-end (Reads circuit) path.front path.last next.read k path.chain next.reads lt is;
            }

        by : (b : Bool) → is_placed (on path) next.read ≡ b → (more : Path) × (length more.front ≡ suc (length path.front))
        by true e =
            let found = any-is (on path) next.read e in
            absurd (free (drop found.0 (on path)) (IsLoop-ring circuit (length circuit.signals) (drop found.0 (on path)) (ring found.0 found.1 found.2)))
        by false e = (
          record {
            front = on path;
            last = next.read;
            chain = IsChain-push (Reads circuit) path.front path.last next.read path.chain next.reads;
            once = AllPairs-append (λ a b. a ≢ b) (on path) (next.read ∷ []) path.once (λ i j d less lt. absurd (omega (arith, less, lt)))
                (λ x y a b same. absurd (true≢false (sym (any-has (on path) next.read (subst (Contains (on path)) (same ∙ alone y b) a)) ∙ e)));
            low = All-append (λ s. s < length circuit.signals) (on path) (next.read ∷ []) path.low (λ i d lt. only i d lt);
            waiting = next.waits;
          },
          grown,
        )
          where
            alone : (y : ℕ) → Contains (next.read ∷ []) y → y ≡ next.read
            alone y h = at (Contains-cases next.read y [] h)
              where
                at : (next.read ≡ y) ⊎ Contains [] y → y ≡ next.read
                at (inl same) = sym same
                at (inr none) = absurd (omega (arith, none.1))

            only : (i d : ℕ) → i < 1 → get_or (next.read ∷ []) i d < length circuit.signals
            only zero d lt = next.low
            only (suc i) d lt = absurd (omega (arith, lt))

    long : Path → (k : ℕ) → (path : Path) × (k ≤ length path.front)
    long first zero = (first, omega arith)
    long first (suc k) =
        let before = long first k in
        let after = longer before.0 in
        (after.0, omega (arith, before.1, after.1))

    all-there : (s : ℕ) → s < length circuit.signals → Contains (placed_after circuit n) s
    all-there s low = by (is_placed (placed_after circuit n) s) refl
      where
        first : is_placed (placed_after circuit n) s ≡ false → Path
        first new =
            record {
              front = [];
              last = s;
              chain = tt;
              once = λ i j d less lt. absurd (omega (arith, less, lt));
              low = λ i d lt. only i d lt;
              waiting = new;
            }
          where
            only : (i d : ℕ) → i < 1 → get_or (s ∷ []) i d < length circuit.signals
            only zero d lt = low
            only (suc i) d lt = absurd (omega (arith, lt))

        by : (b : Bool) → is_placed (placed_after circuit n) s ≡ b → Contains (placed_after circuit n) s
        by true e = any-is (placed_after circuit n) s e
        by false e =
            let far = long (first e) (length circuit.signals) in
            let path = far.0 in
            let few = length-once (path.front ++ path.last ∷ []) (length circuit.signals) path.once path.low in
            absurd (omega (arith, far.1, few, length-append path.front (path.last ∷ [])))

  -- after n rounds all signals are placed, or at least n
  grown-to : IsWellFormed circuit → ((loop : List ℕ) → ¬ IsLoop circuit loop) → (n : ℕ) → ((s : ℕ) → s < length circuit.signals → Contains (placed_after circuit n) s) ⊎ (n ≤ length (placed_after circuit n))
  grown-to formed free zero = inr (omega arith)
  grown-to formed free (suc n) = by (grown-to formed free n) (fresh n) refl
    where
      by : ((s : ℕ) → s < length circuit.signals → Contains (placed_after circuit n) s) ⊎ (n ≤ length (placed_after circuit n)) → (new : List ℕ) → fresh n ≡ new
          → ((s : ℕ) → s < length circuit.signals → Contains (placed_after circuit n ++ fresh n) s) ⊎ (suc n ≤ length (placed_after circuit n ++ fresh n))
      by (inl all) new is = inl (λ s low. Contains-append_left (placed_after circuit n) (fresh n) s (all s low))
      by (inr most) [] is = inl (λ s low. Contains-append_left (placed_after circuit n) (fresh n) s (all-there formed free n is s low))
      by (inr most) (s ∷ rest) is = inr (omega (arith, most, length-append (placed_after circuit n) (fresh n), ap length is))

  module _ (formed : IsWellFormed circuit) (free : (loop : List ℕ) → ¬ IsLoop circuit loop) where
    -- distinct numbers below the count, as many as there are signals, are all of them
    all-placed : (s : ℕ) → s < length circuit.signals → Contains (found_order circuit) s
    all-placed s low = by (grown-to formed free (length circuit.signals)) (cases_Bool (is_placed (found_order circuit) s))
      where
        once : is_placed (found_order circuit) s ≡ false → AllPairs (λ a b. a ≢ b) (s ∷ found_order circuit)
        once new =
            AllPairs-cons (λ a b. a ≢ b) s (found_order circuit)
            (λ i d lt same. absurd (true≢false (sym (any-has (found_order circuit) s (subst (Contains (found_order circuit)) (sym same) (Contains-get_or (found_order circuit) i d lt))) ∙ new)))
            (placed-once (length circuit.signals))

        below : All (λ t. t < length circuit.signals) (s ∷ found_order circuit)
        below zero d lt = low
        below (suc i) d lt = placed-below (length circuit.signals) i d (omega (arith, lt))

        by : ((t : ℕ) → t < length circuit.signals → Contains (found_order circuit) t) ⊎ (length circuit.signals ≤ length (found_order circuit))
            → (is_placed (found_order circuit) s ≡ true) ⊎ (is_placed (found_order circuit) s ≡ false) → Contains (found_order circuit) s
        by (inl all) there = all s low
        by (inr most) (inl there) = any-is (found_order circuit) s there
        by (inr most) (inr new) =
            let few : suc (length (found_order circuit)) ≤ length circuit.signals = length-once (s ∷ found_order circuit) (length circuit.signals) (once new) below in
            absurd (omega (arith, most, few))

    pub found-is : IsOrder circuit (found_order circuit)
    found-is =
        record {
          signals = λ i lt. placed-low (length circuit.signals) (value_at (found_order circuit) i) (Contains-get_or (found_order circuit) i 0 lt);
          once = placed-once (length circuit.signals);
          every = all-placed;
          after = λ i s lt reads. placed-after (length circuit.signals) i s lt reads;
        }
