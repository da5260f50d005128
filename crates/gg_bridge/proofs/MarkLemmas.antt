-- Which signals of a model reach an in-signal, found along an order of evaluation.
use Rattle.std.proofs.Common.{◌≡◌, ℕ, zero, suc, ◌<◌, ◌≤◌, List, [], ◌∷◌, length, Bool, true, false, true≢false, refl, sym, ◌∙◌, ap, subst, inl, inr, ◌⊎◌, arith}
use Rattle.std.specs.Prelude.{◌==◌, ◌||◌, not, if◌then◌else◌, Contains}
use Rattle.std.specs.List.{list_any}
use Rattle.std.proofs.lemmas.Bool.{cases_lt}
use Rattle.std.proofs.lemmas.List.{get_or_default}
use Rattle.gg_flat.specs.declared.line.Node.{Node}
use Rattle.gg_flat.specs.declared.line.Op.{Op}
use Rattle.gg_flat.specs.declared.line.Op.TheVariants.{Ref, Literal, One, Two, Fix, Mux}
use Rattle.gg_flat.specs.declared.piece.Driver.{Driver}
use Rattle.gg_flat.specs.declared.piece.Driver.TheVariants.{Input, Held, MemoryWord, ReadRegister, Computed}
use Rattle.gg_flat.specs.Line.{value_at}
use Rattle.gg_flat.specs.Circuit.{FlatCircuit, driver_at}
use Rattle.gg_flat.specs.Reads.{Names, NamesSignal, Reads, Reaches}
use Rattle.gg_flat.specs.Order.{IsOrder}
use Rattle.gg_flat.specs.WellFormed.{IsWellFormed, MayDrive}
use Rattle.gg_flat.proofs.ListLemmas.{here, further, Contains-cases, once-apart}
use Rattle.gg_flat.proofs.OrderLemmas.{read-before, place-of}
use Rattle.gg_bridge.proofs.NumberLemmas.{any-is, any-has}

-- ---- what a driver takes

abbrev op_any : (ℕ → Bool) → Op → Bool
op_any test (Ref s) = test s
op_any test (Literal value) = false
op_any test (One op i) = false
op_any test (Two op i j) = false
op_any test (Fix op i n m) = false
op_any test (Mux c i j) = false

abbrev line_any : (ℕ → Bool) → List Node → Bool
line_any test [] = false
line_any test (node ∷ nodes) = op_any test node.op || line_any test nodes

-- a driver is an input, or names a signal that passes the test
abbrev takes : (ℕ → Bool) → Driver → Bool
takes test (Input place) = true
takes test (Held register) = false
takes test (MemoryWord memory reader addr en) = test addr || test en
takes test (ReadRegister memory reader) = false
takes test (Computed line) = line_any test line

or-left : (a b : Bool) → a ≡ true → (a || b) ≡ true
or-left true b e = refl
or-left false b e = absurd (true≢false (sym e))

or-right : (a b : Bool) → b ≡ true → (a || b) ≡ true
or-right true b e = refl
or-right false b e = e

or-cases : (a b : Bool) → (a || b) ≡ true → (a ≡ true) ⊎ (b ≡ true)
or-cases true b e = inl refl
or-cases false b e = inr e

module _ (test : ℕ → Bool) where
  line-takes : (line : List Node) (t : ℕ) → Names line t → test t ≡ true → line_any test line ≡ true
  line-takes [] t named holds = absurd (omega (arith, named.1))
  line-takes (node ∷ nodes) t (zero, lt, e) holds = or-left (op_any test node.op) (line_any test nodes) (ap (op_any test) e ∙ holds)
  line-takes (node ∷ nodes) t (suc k, lt, e) holds = or-right (op_any test node.op) (line_any test nodes) (line-takes nodes t (k, omega (arith, lt), e) holds)

  driver-takes : (driver : Driver) (t : ℕ) → NamesSignal driver t → test t ≡ true → takes test driver ≡ true
  driver-takes (Input place) t named holds = refl
  driver-takes (Held register) t named holds = absurd named
  driver-takes (MemoryWord memory reader addr en) t (inl e) holds = or-left (test addr) (test en) (ap test e ∙ holds)
  driver-takes (MemoryWord memory reader addr en) t (inr e) holds = or-right (test addr) (test en) (ap test e ∙ holds)
  driver-takes (ReadRegister memory reader) t named holds = absurd named
  driver-takes (Computed line) t named holds = line-takes line t named holds

  -- what a driver takes: an input, or a signal that passes the test
  data Taken (driver : Driver) : Type 0 where
    OfInput : (place : ℕ) → driver ≡ Input place → Taken driver
    OfSignal : (t : ℕ) → NamesSignal driver t → test t ≡ true → Taken driver

  op-taken : (op : Op) → op_any test op ≡ true → (t : ℕ) × (op ≡ Ref t) × (test t ≡ true)
  op-taken (Ref s) e = (s, refl, e)
  op-taken (Literal value) e = absurd (true≢false (sym e))
  op-taken (One op i) e = absurd (true≢false (sym e))
  op-taken (Two op i j) e = absurd (true≢false (sym e))
  op-taken (Fix op i n m) e = absurd (true≢false (sym e))
  op-taken (Mux c i j) e = absurd (true≢false (sym e))

  line-taken : (line : List Node) → line_any test line ≡ true → (t : ℕ) × Names line t × (test t ≡ true)
  line-taken [] e = absurd (true≢false (sym e))
  line-taken (node ∷ nodes) e = by (or-cases (op_any test node.op) (line_any test nodes) e) (line-taken nodes)
    where
      by : (op_any test node.op ≡ true) ⊎ (line_any test nodes ≡ true) → (line_any test nodes ≡ true → (t : ℕ) × Names nodes t × (test t ≡ true)) → (t : ℕ) × Names (node ∷ nodes) t × (test t ≡ true)
      by (inl a) rest = let found = op-taken node.op a in (found.0, (0, omega arith, found.1), found.2)
      by (inr b) rest = let found = rest b in (found.0, (suc found.1.0, omega (arith, found.1.1), found.1.2), found.2)

  taken : (driver : Driver) → takes test driver ≡ true → Taken driver
  taken (Input place) e = OfInput place refl
  taken (Held register) e = absurd (true≢false (sym e))
  taken (MemoryWord memory reader addr en) e = by (or-cases (test addr) (test en) e)
    where
      by : (test addr ≡ true) ⊎ (test en ≡ true) → Taken (MemoryWord memory reader addr en)
      by (inl a) = OfSignal addr (inl refl) a
      by (inr b) = OfSignal en (inr refl) b
  taken (ReadRegister memory reader) e = absurd (true≢false (sym e))
  taken (Computed line) e = let found = line-taken line e in OfSignal found.0 found.1 found.2

-- ---- marks along an order

module _ (circuit : FlatCircuit) (order : List ℕ) where
  -- whether signal s is an input or reads one of these
  abbrev takes_of : List ℕ → ℕ → Bool
  takes_of marks s = takes (λ t. list_any (λ u. u == t) marks) (driver_at circuit s)

  -- the signals that reach an input, among the first i of the order
  abbrev marks : ℕ → List ℕ
  marks zero = []
  marks (suc i) = if takes_of (marks i) (value_at order i) then value_at order i ∷ marks i else marks i

  -- signal s was marked at place j
  record IsMarkedAt (i s : ℕ) : Type 0 where
    pub place : ℕ
    pub before : place < i
    pub is : value_at order place ≡ s
    pub takes : takes_of (marks place) s ≡ true

  marked-more : (i s : ℕ) (b : Bool) → takes_of (marks i) (value_at order i) ≡ b → (Contains (marks i) s → IsMarkedAt i s) → Contains (if b then value_at order i ∷ marks i else marks i) s → IsMarkedAt (suc i) s
  marked-more i s true e before h = by (Contains-cases (value_at order i) s (marks i) h)
    where
      by : (value_at order i ≡ s) ⊎ Contains (marks i) s → IsMarkedAt (suc i) s
      by (inl same) = record { place = i; before = omega arith; is = same; takes = subst (λ t. takes_of (marks i) t ≡ true) same e }
      by (inr r) = let at = before r in record { place = at.place; before = omega (arith, at.before); is = at.is; takes = at.takes }
  marked-more i s false e before h = let at = before h in record { place = at.place; before = omega (arith, at.before); is = at.is; takes = at.takes }

  marked-at : (i s : ℕ) → Contains (marks i) s → IsMarkedAt i s
  marked-at zero s h = absurd (omega (arith, h.1))
  marked-at (suc i) s h = marked-more i s (takes_of (marks i) (value_at order i)) refl (marked-at i s) h

  kept-more : (i s : ℕ) (b : Bool) → Contains (marks i) s → Contains (if b then value_at order i ∷ marks i else marks i) s
  kept-more i s true h = further (value_at order i) (marks i) s h
  kept-more i s false h = h

  kept : (i k s : ℕ) → i ≤ k → Contains (marks i) s → Contains (marks k) s
  kept zero k s le h = absurd (omega (arith, h.1))
  kept (suc i) zero s le h = absurd (omega (arith, le))
  kept (suc i) (suc k) s le h = by (cases_lt i k) (λ lt. kept (suc i) k s lt h)
    where
      by : (i < k) ⊎ (k ≤ i) → (suc i ≤ k → Contains (marks k) s) → Contains (marks (suc k)) s
      by (inl lt) rest = kept-more k s (takes_of (marks k) (value_at order k)) (rest (omega (arith, lt)))
      by (inr ge) rest = subst (λ n. Contains (marks (suc n)) s) (let same : i ≡ k = omega (arith, ge, le) in same) h

  marks-here : (i : ℕ) (b : Bool) → b ≡ true → Contains (if b then value_at order i ∷ marks i else marks i) (value_at order i)
  marks-here i true e = here (value_at order i) (marks i)
  marks-here i false e = absurd (true≢false (sym e))

  mark-in : (i k : ℕ) → i < k → takes_of (marks i) (value_at order i) ≡ true → Contains (marks k) (value_at order i)
  mark-in i k lt e = kept (suc i) k (value_at order i) (omega (arith, lt)) (marks-here i (takes_of (marks i) (value_at order i)) e)

  module _ (formed : IsWellFormed circuit) (ordered : IsOrder circuit order) where
    -- what is marked reaches an in-signal
    reach : (i s : ℕ) → i ≤ length order → Contains (marks i) s → (signal : ℕ) × Contains circuit.ins signal × Reaches circuit s signal
    reach zero s le h = absurd (omega (arith, h.1))
    reach (suc i) s le h = step (takes_of (marks i) (value_at order i)) refl h (λ t m. reach i t (omega (arith, le)) m)
      where
        found : Taken (λ t. list_any (λ u. u == t) (marks i)) (driver_at circuit (value_at order i)) → ((t : ℕ) → Contains (marks i) t → (signal : ℕ) × Contains circuit.ins signal × Reaches circuit t signal) → (signal : ℕ) × Contains circuit.ins signal × Reaches circuit (value_at order i) signal
        found (OfInput place e) rest =
            let known = ordered.signals i (omega (arith, le)) in
            let at = subst (MayDrive circuit (value_at order i)) e (formed.drivers (value_at order i) known) in
            (value_at order i, (place, at.0, get_or_default circuit.ins place (value_at order i) 0 at.0 ∙ at.1), record { path = []; reads = refl })
        found (OfSignal t named holds) rest =
            let known = ordered.signals i (omega (arith, le)) in
            let to = rest t (any-is (marks i) t holds) in
            (to.0, to.1, record { path = t ∷ to.2.path; reads = (record { signal = known; names = named }, to.2.reads) })

        step : (b : Bool) → takes_of (marks i) (value_at order i) ≡ b → Contains (if b then value_at order i ∷ marks i else marks i) s → ((t : ℕ) → Contains (marks i) t → (signal : ℕ) × Contains circuit.ins signal × Reaches circuit t signal) → (signal : ℕ) × Contains circuit.ins signal × Reaches circuit s signal
        step true e h rest = by (Contains-cases (value_at order i) s (marks i) h)
          where
            by : (value_at order i ≡ s) ⊎ Contains (marks i) s → (signal : ℕ) × Contains circuit.ins signal × Reaches circuit s signal
            by (inl same) = subst (λ t. (signal : ℕ) × Contains circuit.ins signal × Reaches circuit t signal) same (found (taken (λ t. list_any (λ u. u == t) (marks i)) (driver_at circuit (value_at order i)) e) rest)
            by (inr r) = rest s r
        step false e h rest = rest s h

    -- a signal that isn't marked
    abbrev pub is_free : ℕ → Bool
    is_free s = not (list_any (λ u. u == s) (marks (length order)))

    free-is : (s : ℕ) → is_free s ≡ true → Contains (marks (length order)) s → ⊥
    free-is s e h = by (list_any (λ u. u == s) (marks (length order))) (any-has (marks (length order)) s h) e
      where
        by : (b : Bool) → b ≡ true → not b ≡ true → ⊥
        by true p q = true≢false (sym q)
        by false p q = true≢false (sym p)

    is-free : (s : ℕ) → (Contains (marks (length order)) s → ⊥) → is_free s ≡ true
    is-free s none = by (list_any (λ u. u == s) (marks (length order))) refl
      where
        by : (b : Bool) → list_any (λ u. u == s) (marks (length order)) ≡ b → not b ≡ true
        by true e = absurd (none (any-is (marks (length order)) s e))
        by false e = refl

    -- an in-signal isn't free, and what a free signal reads is free
    pub input-bound : (s place : ℕ) → s < length circuit.signals → driver_at circuit s ≡ Input place → is_free s ≡ true → ⊥
    input-bound s place lt is free =
        let at = place-of circuit order s ordered lt in
        let takes-it : takes_of (marks at.place) (value_at order at.place) ≡ true = ap (λ d. takes (λ t. list_any (λ u. u == t) (marks at.place)) d) (ap (driver_at circuit) at.is ∙ is) in
        free-is s free (subst (Contains (marks (length order))) at.is (mark-in at.place (length order) at.within takes-it))

    pub free-reads : (s t : ℕ) → is_free s ≡ true → Reads circuit s t → is_free t ≡ true
    free-reads s t free reads = is-free t (λ h.
        let at = place-of circuit order s ordered reads.signal in
        let before = read-before circuit order at.place s t ordered at.within at.is reads in
        let mark = marked-at (length order) t h in
        let same : mark.place ≡ before.place = once-apart order 0 ordered.once mark.place before.place mark.before before.within (mark.is ∙ sym before.is) in
        let earlier : Contains (marks at.place) t = subst (Contains (marks at.place)) mark.is (mark-in mark.place at.place (omega (arith, same, before.before)) (subst (λ u. takes_of (marks mark.place) u ≡ true) (sym mark.is) mark.takes)) in
        let takes-it : takes_of (marks at.place) (value_at order at.place) ≡ true =
        ap (λ u. takes_of (marks at.place) u) at.is ∙ driver-takes (λ u. list_any (λ v. v == u) (marks at.place)) (driver_at circuit s) t reads.names (any-has (marks at.place) t earlier) in
        free-is s free (subst (Contains (marks (length order))) at.is (mark-in at.place (length order) at.within takes-it)))

    -- what reaches no in-signal is free
    pub free-apart : (s : ℕ) → ((signal : ℕ) → Contains circuit.ins signal → Reaches circuit s signal → ⊥) → is_free s ≡ true
    free-apart s apart = is-free s (λ h. let to = reach (length order) s (omega arith) h in apart to.0 to.1 to.2)
