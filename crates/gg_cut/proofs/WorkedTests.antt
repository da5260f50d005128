-- Tests that show of a plan in full that it is a plan of a cut, or that it isn't: each is computed, and a lemma says what it shows.
use Rattle.std.proofs.Common.{◌≡◌, ◌≢◌, ◌==◌, ◌&&◌, ◌||◌, ◌↔◌, ◌⊎◌, ℕ, zero, suc, ◌<◌, ◌≤◌, List, [], ◌∷◌, length, map, get_or, set, replicate, Bool, true, false, true≢false, not, nat_eq, nat_lt, refl, sym, ◌∙◌, ap, subst, inl, inr, arith, ltb-true}
use Rattle.std.specs.Prelude.{if◌then◌else◌, Contains, AllPairs, bytes_eq}
use Rattle.std.specs.List.{list_all}
use Rattle.std.proofs.lemmas.Bool.Decides.{Decides-eqb}
use Rattle.std.proofs.lemmas.List.{get_or-map, get_or-set_other, get_or_default, length-map}
use Rattle.std.proofs.lemmas.List.Kept.{AllPairs-cons}
use Rattle.std.proofs.lemmas.Slice.Eq.{bytes_eq-Decides}
use Rattle.std.proofs.lemmas.Bool.{and_from, and_parts, or_left, or_right, or_cases, not-true}
use Rattle.gg_flat.specs.declared.line.Node.{Node}
use Rattle.gg_flat.specs.declared.line.Op.{Op}
use Rattle.gg_flat.specs.declared.line.Op.TheVariants.{Ref, Literal, One, Two, Fix, Mux}
use Rattle.gg_flat.specs.declared.piece.Driver.{Driver}
use Rattle.gg_flat.specs.declared.piece.Driver.TheVariants.{Input, Held, MemoryWord, ReadRegister, Computed}
use Rattle.gg_flat.specs.Line.{value_at}
use Rattle.gg_flat.specs.Circuit.{FlatCircuit, driver_at}
use Rattle.gg_flat.specs.Reads.{Names, NamesSignal, Reads, Reaches}
use Rattle.gg_order.proofs.NeedsLemmas.ReachLemmas.{Reaches-on, along-reaches}
use Rattle.gg_order.specs.Marks.{is_marked}
use Rattle.gg_part.specs.Part.{NamesBelow}
use Rattle.gg_flat.specs.InOrder.{IsInOrder}
use Rattle.gg_part.specs.declared.part.Part.{Part}
use Rattle.gg_cut_plan.specs.declared.wires.Wire.{Wire}
use Rattle.gg_cut_plan.specs.Direct.{Hub, is_gone, routes}
use Rattle.gg_cut_plan.specs.Channels.{wire}
use Rattle.gg_cut_plan.specs.Plan.{channels_to, channels_from, signals_of, givens_of, IsInner, MakesBy, Takes, IsNeed, AreNeedsOf}

-- ---- numbers and lists

-- it holds of each number below n, one number after the other
abbrev pub Upto : (ℕ → Type 0) → ℕ → Type 0
Upto P zero = Unit {0}
Upto P (suc n) = P 0 × Upto (λ k. P (suc k)) n

pub each-below : (P : ℕ → Type 0) (n : ℕ) → Upto P n → (k : ℕ) → k < n → P k
each-below P zero all k lt = absurd (omega arith)
each-below P (suc n) all zero lt = all.0
each-below P (suc n) all (suc k) lt = each-below (λ i. P (suc i)) n all.1 k (omega arith)

-- a test holds at each number below n
abbrev pub all_below : (ℕ → Bool) → ℕ → Bool
all_below test zero = true
all_below test (suc n) = test 0 && all_below (λ k. test (suc k)) n

pub test-below : (test : ℕ → Bool) (n : ℕ) → all_below test n ≡ true → (k : ℕ) → k < n → test k ≡ true
test-below test zero is k lt = absurd (omega arith)
test-below test (suc n) is zero lt = (and_parts (test 0) (all_below (λ k. test (suc k)) n) is).0
test-below test (suc n) is (suc k) lt = test-below (λ i. test (suc i)) n (and_parts (test 0) (all_below (λ k. test (suc k)) n) is).1 k (omega arith)

-- the number is in the list
abbrev pub has : List ℕ → ℕ → Bool
has [] s = false
has (x ∷ xs) s = (x == s) || has xs s

pub has-contains : (xs : List ℕ) (s : ℕ) → has xs s ≡ true → Contains xs s
has-contains [] s is = cc
has-contains (x ∷ xs) s is = elim (or_cases (x == s) (has xs s) is) [
  | inl here ↦ (0, omega arith, (Decides-eqb x s).0 here)
  | inr later ↦ let at = has-contains xs s later in (suc at.0, omega (arith, at.1), at.2)
]

pub contains-has : (xs : List ℕ) (s : ℕ) → Contains xs s → has xs s ≡ true
contains-has [] s (k, lt, is) = absurd (omega arith)
contains-has (x ∷ xs) s (zero, lt, is) = or_left (x == s) (has xs s) ((Decides-eqb x s).1 is)
contains-has (x ∷ xs) s (suc k, lt, is) = or_right (x == s) (has xs s) (contains-has xs s (k, omega arith, is))

-- a test that holds of a whole list holds of each number in it
pub test-of : (test : ℕ → Bool) (xs : List ℕ) → list_all test xs ≡ true → (s : ℕ) → Contains xs s → test s ≡ true
test-of test [] is s (k, lt, at) = absurd (omega arith)
test-of test (x ∷ xs) is s (zero, lt, at) = subst (λ (y : ℕ). test y ≡ true) at (and_parts (test x) (list_all test xs) is).0
test-of test (x ∷ xs) is s (suc k, lt, at) = test-of test xs (and_parts (test x) (list_all test xs) is).1 s (k, omega arith, at)

-- the test holds of each number and each later one
abbrev pub all_pairs : (ℕ → ℕ → Bool) → List ℕ → Bool
all_pairs test [] = true
all_pairs test (x ∷ xs) = list_all (test x) xs && all_pairs test xs

pub pairs-test : (test : ℕ → ℕ → Bool) (R : ℕ → ℕ → Type 0) → ((a b : ℕ) → test a b ≡ true → R a b) → (xs : List ℕ) → all_pairs test xs ≡ true → AllPairs R xs
pairs-test test R shows [] is = λ i j d lt within. absurd (omega arith)
pairs-test test R shows (x ∷ xs) is =
    let parts = and_parts (list_all (test x) xs) (all_pairs test xs) is in
    AllPairs-cons R x xs (λ i d lt. shows x (get_or xs i d) (test-of (test x) xs parts.0 (get_or xs i d) (i, lt, get_or_default xs i (get_or xs i d) d lt))) (pairs-test test R shows xs parts.1)

pub ascending : (xs : List ℕ) → all_pairs nat_lt xs ≡ true → AllPairs (λ a b. a < b) xs
ascending xs is = pairs-test nat_lt (λ a b. a < b) ltb-true xs is

pub distinct : (xs : List ℕ) → all_pairs (λ a b. not (a == b)) xs ≡ true → AllPairs (λ a b. a ≢ b) xs
distinct xs is = pairs-test (λ a b. not (a == b)) (λ a b. a ≢ b) (λ a b t same. true≢false (sym ((Decides-eqb a b).1 same) ∙ not-true (a == b) t)) xs is

-- ---- what drivers name

abbrev refs_op : Op → List ℕ → List ℕ
refs_op (Ref s) rest = s ∷ rest
refs_op (Literal value) rest = rest
refs_op (One op i) rest = rest
refs_op (Two op i j) rest = rest
refs_op (Fix op i n m) rest = rest
refs_op (Mux c i j) rest = rest

abbrev refs : List Node → List ℕ
refs [] = []
refs (n ∷ line) = refs_op n.op (refs line)

abbrev pub named : Driver → List ℕ
named (Input place) = []
named (Held register) = []
named (MemoryWord memory reader addr en) = addr ∷ en ∷ []
named (ReadRegister memory reader) = []
named (Computed line) = refs line

refs-here : (op : Op) (rest : List ℕ) (s : ℕ) → op ≡ Ref s → Contains (refs_op op rest) s
refs-here op rest s is = subst (λ (o : Op). Contains (refs_op o rest) s) (sym is) (0, omega arith, refl)

refs-later : (op : Op) (rest : List ℕ) (s : ℕ) → Contains rest s → Contains (refs_op op rest) s
refs-later (Ref t) rest s at = (suc at.0, omega (arith, at.1), at.2)
refs-later (Literal value) rest s at = at
refs-later (One op i) rest s at = at
refs-later (Two op i j) rest s at = at
refs-later (Fix op i n m) rest s at = at
refs-later (Mux c i j) rest s at = at

pub refs-names : (line : List Node) (s : ℕ) → Names line s → Contains (refs line) s
refs-names [] s (k, lt, is) = absurd (omega arith)
refs-names (n ∷ line) s (zero, lt, is) = refs-here n.op (refs line) s is
refs-names (n ∷ line) s (suc k, lt, is) = refs-later n.op (refs line) s (refs-names line s (k, omega arith, is))

names-later : (n : Node) (line : List Node) (s : ℕ) → Names line s → Names (n ∷ line) s
names-later n line s at = (suc at.0, omega (arith, at.1), at.2)

names-by : (n : Node) (line : List Node) (s : ℕ) (op : Op) → n.op ≡ op → ((t : ℕ) → Contains (refs line) t → Names line t) → Contains (refs_op op (refs line)) s → Names (n ∷ line) s
names-by n line s (Ref t) is rest (zero, lt, at) = (0, omega arith, is ∙ ap Ref at)
names-by n line s (Ref t) is rest (suc k, lt, at) = names-later n line s (rest s (k, omega arith, at))
names-by n line s (Literal value) is rest at = names-later n line s (rest s at)
names-by n line s (One op i) is rest at = names-later n line s (rest s at)
names-by n line s (Two op i j) is rest at = names-later n line s (rest s at)
names-by n line s (Fix op i m o) is rest at = names-later n line s (rest s at)
names-by n line s (Mux c i j) is rest at = names-later n line s (rest s at)

names-refs : (line : List Node) (s : ℕ) → Contains (refs line) s → Names line s
names-refs [] s (k, lt, is) = absurd (omega arith)
names-refs (n ∷ line) s at = names-by n line s n.op refl (λ t more. names-refs line t more) at

pub named-all : (driver : Driver) (s : ℕ) → NamesSignal driver s → Contains (named driver) s
named-all (Input place) s names = absurd names
named-all (Held register) s names = absurd names
named-all (MemoryWord memory reader addr en) s (inl is) = (0, omega arith, is)
named-all (MemoryWord memory reader addr en) s (inr is) = (1, omega arith, is)
named-all (ReadRegister memory reader) s names = absurd names
named-all (Computed line) s names = refs-names line s names

pub named-only : (driver : Driver) (s : ℕ) → Contains (named driver) s → NamesSignal driver s
named-only (Input place) s (k, lt, is) = absurd (omega arith)
named-only (Held register) s (k, lt, is) = absurd (omega arith)
named-only (MemoryWord memory reader addr en) s (zero, lt, is) = inl is
named-only (MemoryWord memory reader addr en) s (suc zero, lt, is) = inr is
named-only (MemoryWord memory reader addr en) s (suc (suc k), lt, is) = absurd (omega arith)
named-only (ReadRegister memory reader) s (k, lt, is) = absurd (omega arith)
named-only (Computed line) s at = names-refs line s at

-- a line names only signals below n
pub names-below : (n : ℕ) (line : List Node) → list_all (λ s. nat_lt s n) (refs line) ≡ true → NamesBelow n line
names-below n line is s names = ltb-true s n (test-of (λ t. nat_lt t n) (refs line) is s (refs-names line s names))

-- the signals of a circuit stand in an order of evaluation
abbrev pub in_order : FlatCircuit → Bool
in_order circuit = all_below (λ a. list_all (λ s. nat_lt s a) (named (driver_at circuit a))) (length circuit.signals)

pub in-order : (circuit : FlatCircuit) → in_order circuit ≡ true → IsInOrder circuit
in-order circuit is a b reads =
    ltb-true b a (test-of (λ s. nat_lt s a) (named (driver_at circuit a)) (test-below (λ x. list_all (λ s. nat_lt s x) (named (driver_at circuit x))) (length circuit.signals) is a reads.signal) b (named-all (driver_at circuit a) b reads.names))

-- ---- what a signal reaches

abbrev mark_all : List ℕ → List Bool → List Bool
mark_all [] marks = marks
mark_all (s ∷ ss) marks = mark_all ss (set marks s true)

-- the signals below k hand their marks on, the last first
abbrev handed : FlatCircuit → ℕ → List Bool → List Bool
handed circuit zero marks = marks
handed circuit (suc k) marks = handed circuit k (if is_marked marks k then mark_all (named (driver_at circuit k)) marks else marks)

abbrev pub cone : FlatCircuit → ℕ → List Bool
cone circuit out = handed circuit (length circuit.signals) (set (replicate (length circuit.signals) false) out true)

marked-set : (marks : List Bool) (s t : ℕ) → is_marked (set marks s true) t ≡ true → (s ≡ t) ⊎ (is_marked marks t ≡ true)
marked-set marks s t is = by (nat_eq t s) refl
  where
    by : (b : Bool) → nat_eq t s ≡ b → (s ≡ t) ⊎ (is_marked marks t ≡ true)
    by true e = inl (sym ((Decides-eqb t s).0 e))
    by false e = inr (sym (get_or-set_other marks s t true false (λ same. true≢false (sym ((Decides-eqb t s).1 same) ∙ e))) ∙ is)

mark_all-only : (P : ℕ → Type 0) (ss : List ℕ) (marks : List Bool) → ((s : ℕ) → Contains ss s → P s) → ((s : ℕ) → is_marked marks s ≡ true → P s) → (s : ℕ) → is_marked (mark_all ss marks) s ≡ true → P s
mark_all-only P [] marks named old s is = old s is
mark_all-only P (x ∷ ss) marks named old s is =
    mark_all-only P ss (set marks x true) (λ t at. named t (suc at.0, omega (arith, at.1), at.2))
    (λ t m. elim (marked-set marks x t m) [ inl same ↦ named t (0, omega arith, same) | inr was ↦ old t was ]) s is

handed-only : (circuit : FlatCircuit) (out k : ℕ) (marks : List Bool) → k ≤ length circuit.signals → ((s : ℕ) → is_marked marks s ≡ true → Reaches circuit out s) → (s : ℕ) → is_marked (handed circuit k marks) s ≡ true → Reaches circuit out s
handed-only circuit out zero marks within old s is = old s is
handed-only circuit out (suc k) marks within old s is =
    handed-only circuit out k (if is_marked marks k then mark_all (named (driver_at circuit k)) marks else marks) (omega arith) (λ t m. by t (is_marked marks k) refl m) s is
  where
    by : (t : ℕ) (b : Bool) → is_marked marks k ≡ b → is_marked (if b then mark_all (named (driver_at circuit k)) marks else marks) t ≡ true → Reaches circuit out t
    by t true e m =
        let to = old k e in
        mark_all-only (Reaches circuit out) (named (driver_at circuit k)) marks
        (λ x at. Reaches-on circuit out k x to (record { signal = omega arith; names = named-only (driver_at circuit k) x at })) old t m
    by t false e m = old t m

unmarked : (n s : ℕ) → is_marked (replicate n false) s ≡ false
unmarked zero s = refl
unmarked (suc n) zero = refl
unmarked (suc n) (suc s) = unmarked n s

-- what is marked is reached
pub cone-only : (circuit : FlatCircuit) (out s : ℕ) → is_marked (cone circuit out) s ≡ true → Reaches circuit out s
cone-only circuit out s is =
    handed-only circuit out (length circuit.signals) (set (replicate (length circuit.signals) false) out true) (omega arith)
    (λ t m. elim (marked-set (replicate (length circuit.signals) false) out t m) [
      | inl same ↦ record { path = []; reads = same }
      | inr was ↦ absurd (true≢false (sym was ∙ unmarked (length circuit.signals) t))
    ]) s is

-- what a signal reads is marked, if the signal itself is
abbrev hands_on : FlatCircuit → List Bool → ℕ → Bool
hands_on circuit marks a = if is_marked marks a then list_all (is_marked marks) (named (driver_at circuit a)) else true

abbrev pub is_closed : FlatCircuit → ℕ → Bool
is_closed circuit out = is_marked (cone circuit out) out && all_below (hands_on circuit (cone circuit out)) (length circuit.signals)

closed-step : (circuit : FlatCircuit) (marks : List Bool) → all_below (hands_on circuit marks) (length circuit.signals) ≡ true → (x y : ℕ) → is_marked marks x ≡ true → Reads circuit x y → is_marked marks y ≡ true
closed-step circuit marks all x y at reads =
    test-of (is_marked marks) (named (driver_at circuit x))
    (subst (λ (b : Bool). (if b then list_all (is_marked marks) (named (driver_at circuit x)) else true) ≡ true) at (test-below (hands_on circuit marks) (length circuit.signals) all x reads.signal))
    y (named-all (driver_at circuit x) y reads.names)

-- what is reached is marked
pub cone-all : (circuit : FlatCircuit) (out s : ℕ) → is_closed circuit out ≡ true → Reaches circuit out s → is_marked (cone circuit out) s ≡ true
cone-all circuit out s is to =
    let parts = and_parts (is_marked (cone circuit out) out) (all_below (hands_on circuit (cone circuit out)) (length circuit.signals)) is in
    along-reaches circuit (λ x. is_marked (cone circuit out) x ≡ true) (closed-step circuit (cone circuit out) parts.1) out s parts.0 to

-- ---- needs

-- the channels at those in-signals that are marked
abbrev needed_from : List Bool → List ℕ → List ℕ → List ℕ
needed_from marks [] channels = []
needed_from marks (i ∷ ins) [] = if is_marked marks i then 0 ∷ needed_from marks ins [] else needed_from marks ins []
needed_from marks (i ∷ ins) (c ∷ channels) = if is_marked marks i then c ∷ needed_from marks ins channels else needed_from marks ins channels

abbrev pub needed : Part → List ℕ → ℕ → List ℕ
needed part channels out = needed_from (cone part.piece out) part.piece.ins channels

-- a channel at a marked in-signal
record AtMarked (marks : List Bool) (ins channels : List ℕ) (c : ℕ) : Type 0 where
  pub place : ℕ
  pub known : place < length ins
  pub is : value_at channels place ≡ c
  pub marked : is_marked marks (value_at ins place) ≡ true

later : (marks : List Bool) (i : ℕ) (ins channels rest : List ℕ) (c : ℕ) → ((k : ℕ) → value_at rest k ≡ value_at channels (suc k)) → AtMarked marks ins rest c → AtMarked marks (i ∷ ins) channels c
later marks i ins channels rest c same at = record { place = suc at.place; known = omega (arith, at.known); is = sym (same at.place) ∙ at.is; marked = at.marked }

head-or : (x : ℕ) (rest : List ℕ) (c : ℕ) (b : Bool) → Contains (if b then x ∷ rest else rest) c → ((b ≡ true) × (x ≡ c)) ⊎ Contains rest c
head-or x rest c true (zero, lt, is) = inl (refl, is)
head-or x rest c true (suc k, lt, is) = inr (k, omega arith, is)
head-or x rest c false at = inr at

needed-at : (marks : List Bool) (ins channels : List ℕ) (c : ℕ) → Contains (needed_from marks ins channels) c → AtMarked marks ins channels c
needed-at marks [] channels c (k, lt, is) = absurd (omega arith)
needed-at marks (i ∷ ins) [] c at = elim (head-or 0 (needed_from marks ins []) c (is_marked marks i) at) [
  | inl here ↦ record { place = 0; known = omega arith; is = here.1; marked = here.0 }
  | inr more ↦ later marks i ins [] [] c (λ k. refl) (needed-at marks ins [] c more)
]
needed-at marks (i ∷ ins) (x ∷ channels) c at = elim (head-or x (needed_from marks ins channels) c (is_marked marks i) at) [
  | inl here ↦ record { place = 0; known = omega arith; is = here.1; marked = here.0 }
  | inr more ↦ later marks i ins (x ∷ channels) channels c (λ k. refl) (needed-at marks ins channels c more)
]

head-in : (x : ℕ) (rest : List ℕ) (c : ℕ) (b : Bool) → b ≡ true → x ≡ c → Contains (if b then x ∷ rest else rest) c
head-in x rest c true is same = (0, omega arith, same)
head-in x rest c false is same = cc

rest-in : (x : ℕ) (rest : List ℕ) (c : ℕ) (b : Bool) → Contains rest c → Contains (if b then x ∷ rest else rest) c
rest-in x rest c true at = (suc at.0, omega (arith, at.1), at.2)
rest-in x rest c false at = at

at-needed : (marks : List Bool) (ins channels : List ℕ) (c place : ℕ) → place < length ins → value_at channels place ≡ c → is_marked marks (value_at ins place) ≡ true → Contains (needed_from marks ins channels) c
at-needed marks [] channels c place known is marked = absurd (omega arith)
at-needed marks (i ∷ ins) [] c zero known is marked = head-in 0 (needed_from marks ins []) c (is_marked marks i) marked is
at-needed marks (i ∷ ins) [] c (suc place) known is marked = rest-in 0 (needed_from marks ins []) c (is_marked marks i) (at-needed marks ins [] c place (omega arith) is marked)
at-needed marks (i ∷ ins) (x ∷ channels) c zero known is marked = head-in x (needed_from marks ins channels) c (is_marked marks i) marked is
at-needed marks (i ∷ ins) (x ∷ channels) c (suc place) known is marked = rest-in x (needed_from marks ins channels) c (is_marked marks i) (at-needed marks ins channels c place (omega arith) is marked)

pub needs-needed : (part : Part) (channels : List ℕ) (out : ℕ) → is_closed part.piece out ≡ true → AreNeedsOf part channels out (needed part channels out)
needs-needed part channels out closed c = (to, from)
  where
    to : Contains (needed part channels out) c → IsNeed part channels out c
    to at =
        let h = needed-at (cone part.piece out) part.piece.ins channels c at in
        record { place = h.place; known = h.known; is = h.is; reached = cone-only part.piece out (value_at part.piece.ins h.place) h.marked }

    from : IsNeed part channels out c → Contains (needed part channels out) c
    from need = at-needed (cone part.piece out) part.piece.ins channels c need.place need.known need.is (cone-all part.piece out (value_at part.piece.ins need.place) closed need.reached)

-- these are the needs of each out-signal of the part that stands for signal s
abbrev pub has_needs : Part → List ℕ → ℕ → List ℕ → Bool
has_needs part channels s needs = all_below (λ out. if value_at part.globals out == s then is_closed part.piece out && bytes_eq needs (needed part channels out) else true) (length part.globals)

pub has-needs : (part : Part) (channels : List ℕ) (s : ℕ) (needs : List ℕ) → has_needs part channels s needs ≡ true → (out : ℕ) → out < length part.globals → value_at part.globals out ≡ s → AreNeedsOf part channels out needs
has-needs part channels s needs test out lt is =
    let here = test-below (λ o. if value_at part.globals o == s then is_closed part.piece o && bytes_eq needs (needed part channels o) else true) (length part.globals) test out lt in
    let parts = and_parts (is_closed part.piece out) (bytes_eq needs (needed part channels out)) (subst (λ (b : Bool). (if b then is_closed part.piece out && bytes_eq needs (needed part channels out) else true) ≡ true) ((Decides-eqb (value_at part.globals out) s).1 is) here) in
    subst (AreNeedsOf part channels out) (sym ((bytes_eq-Decides needs (needed part channels out)).0 parts.1)) (needs-needed part channels out parts.0)

-- a channel that is needed and isn't listed
pub lacks-need : (part : Part) (channels : List ℕ) (out : ℕ) (needs : List ℕ) (c : ℕ) → is_closed part.piece out ≡ true → has (needed part channels out) c ≡ true → has needs c ≡ false → ¬ AreNeedsOf part channels out needs
lacks-need part channels out needs c closed needed_is told wrong =
    true≢false (sym (contains-has needs c ((wrong c).1 ((needs-needed part channels out closed c).0 (has-contains (needed part channels out) c needed_is)))) ∙ told)

-- a channel that is listed and isn't needed
pub extra-need : (part : Part) (channels : List ℕ) (out : ℕ) (needs : List ℕ) (c : ℕ) → is_closed part.piece out ≡ true → has (needed part channels out) c ≡ false → has needs c ≡ true → ¬ AreNeedsOf part channels out needs
extra-need part channels out needs c closed not_needed told wrong =
    true≢false (sym (contains-has (needed part channels out) c ((needs-needed part channels out closed c).1 ((wrong c).0 (has-contains needs c told)))) ∙ not_needed)

-- ---- the signals of a machine

abbrev owns : Hub → ℕ → ℕ → Bool
owns hub m s = (hub.owner s == m) && not (has (map (λ w. w.signal) hub.base) s)

abbrev makes : Hub → ℕ → ℕ → Bool
makes hub m s = (owns hub m s && not (is_gone hub s)) || has (givens_of (routes hub) (channels_from (routes hub) m)) s

abbrev makes_or_takes : Hub → ℕ → ℕ → Bool
makes_or_takes hub m s = makes hub m s || has (signals_of (routes hub) (channels_to (routes hub) m)) s

abbrev same_bool : Bool → Bool → Bool
same_bool true b = b
same_bool false b = not b

same-to : (a b : Bool) → same_bool a b ≡ true → a ≡ true → b ≡ true
same-to true b is at = is
same-to false b is at = cc

same-from : (a b : Bool) → same_bool a b ≡ true → b ≡ true → a ≡ true
same-from true b is at = refl
same-from false b is at = absurd (true≢false (sym at ∙ not-true b is))

inner-test : (wires : List Wire) (s : ℕ) → has (map (λ w. w.signal) wires) s ≡ false → IsInner wires s
inner-test wires s none c lt is =
    true≢false (sym (contains-has (map (λ (w : Wire). w.signal) wires) s (c, omega (arith, lt, length-map wires (λ (w : Wire). w.signal)), get_or-map (λ (w : Wire). w.signal) wires c (wire 0 0 0) s lt ∙ is)) ∙ none)

test-inner : (wires : List Wire) (s : ℕ) → IsInner wires s → has (map (λ w. w.signal) wires) s ≡ false
test-inner wires s inner = by (has (map (λ w. w.signal) wires) s) refl
  where
    by : (b : Bool) → has (map (λ w. w.signal) wires) s ≡ b → has (map (λ w. w.signal) wires) s ≡ false
    by false e = e
    by true e =
        let at = has-contains (map (λ (w : Wire). w.signal) wires) s e in
        let lt : at.0 < length wires = omega (arith, at.1, length-map wires (λ (w : Wire). w.signal)) in
        absurd (inner at.0 lt (sym (get_or-map (λ (w : Wire). w.signal) wires at.0 (wire 0 0 0) s lt) ∙ at.2))

makes-shows : (hub : Hub) (m s : ℕ) → s < length hub.circuit.signals → makes hub m s ≡ true → MakesBy hub m s
makes-shows hub m s known is =
    elim (or_cases (owns hub m s && not (is_gone hub s)) (has (givens_of (routes hub) (channels_from (routes hub) m)) s) is) [
      | inl own ↦
          let stays = and_parts (owns hub m s) (not (is_gone hub s)) own in
          let parts = and_parts (hub.owner s == m) (not (has (map (λ w. w.signal) hub.base) s)) stays.0 in
          inl (known, (Decides-eqb (hub.owner s) m).0 parts.0, inner-test hub.base s (not-true (has (map (λ w. w.signal) hub.base) s) parts.1), not-true (is_gone hub s) stays.1)
      | inr given ↦ inr (has-contains (givens_of (routes hub) (channels_from (routes hub) m)) s given)
    ]

shows-makes : (hub : Hub) (m s : ℕ) → MakesBy hub m s → makes hub m s ≡ true
shows-makes hub m s (inl (known, owner, inner, stays)) =
    or_left (owns hub m s && not (is_gone hub s)) (has (givens_of (routes hub) (channels_from (routes hub) m)) s)
    (and_from (owns hub m s) (not (is_gone hub s)) (and_from (hub.owner s == m) (not (has (map (λ w. w.signal) hub.base) s)) ((Decides-eqb (hub.owner s) m).1 owner) (ap not (test-inner hub.base s inner))) (ap not stays))
shows-makes hub m s (inr given) = or_right (owns hub m s && not (is_gone hub s)) (has (givens_of (routes hub) (channels_from (routes hub) m)) s) (contains-has (givens_of (routes hub) (channels_from (routes hub) m)) s given)

-- all are signals of the circuit
abbrev pub are_known : FlatCircuit → List ℕ → Bool
are_known circuit signals = list_all (λ s. nat_lt s (length circuit.signals)) signals

pub known-at : (circuit : FlatCircuit) (signals : List ℕ) (s : ℕ) → are_known circuit signals ≡ true → Contains signals s → s < length circuit.signals
known-at circuit signals s is at = ltb-true s (length circuit.signals) (test-of (λ t. nat_lt t (length circuit.signals)) signals is s at)

-- just the signals that a machine makes or takes
abbrev pub has_signals : Hub → ℕ → List ℕ → Bool
has_signals hub m globals = all_below (λ s. same_bool (has globals s) (makes_or_takes hub m s)) (length hub.circuit.signals)

pub has-signals : (hub : Hub) (m : ℕ) (globals : List ℕ) → has_signals hub m globals ≡ true → are_known hub.circuit globals ≡ true → are_known hub.circuit (givens_of (routes hub) (channels_from (routes hub) m)) ≡ true → are_known hub.circuit (signals_of (routes hub) (channels_to (routes hub) m)) ≡ true
    → (s : ℕ) → Contains globals s ↔ (MakesBy hub m s ⊎ Takes (routes hub) m s)
has-signals hub m globals test own given taken s = (to, from)
  where
    same : s < length hub.circuit.signals → same_bool (has globals s) (makes_or_takes hub m s) ≡ true
    same lt = test-below (λ t. same_bool (has globals t) (makes_or_takes hub m t)) (length hub.circuit.signals) test s lt

    to : Contains globals s → MakesBy hub m s ⊎ Takes (routes hub) m s
    to at =
        let lt = known-at hub.circuit globals s own at in
        elim (or_cases (makes hub m s) (has (signals_of (routes hub) (channels_to (routes hub) m)) s) (same-to (has globals s) (makes_or_takes hub m s) (same lt) (contains-has globals s at))) [
          | inl made ↦ inl (makes-shows hub m s lt made)
          | inr got ↦ inr (has-contains (signals_of (routes hub) (channels_to (routes hub) m)) s got)
        ]

    there : s < length hub.circuit.signals → makes_or_takes hub m s ≡ true → Contains globals s
    there lt is = has-contains globals s (same-from (has globals s) (makes_or_takes hub m s) (same lt) is)

    from : MakesBy hub m s ⊎ Takes (routes hub) m s → Contains globals s
    from (inl (inl (known, owner, inner, stays))) =
        there known (or_left (makes hub m s) (has (signals_of (routes hub) (channels_to (routes hub) m)) s) (shows-makes hub m s (inl (known, owner, inner, stays))))
    from (inl (inr gives)) =
        there (known-at hub.circuit (givens_of (routes hub) (channels_from (routes hub) m)) s given gives) (or_left (makes hub m s) (has (signals_of (routes hub) (channels_to (routes hub) m)) s) (shows-makes hub m s (inr gives)))
    from (inr takes) =
        there (known-at hub.circuit (signals_of (routes hub) (channels_to (routes hub) m)) s taken takes) (or_right (makes hub m s) (has (signals_of (routes hub) (channels_to (routes hub) m)) s) (contains-has (signals_of (routes hub) (channels_to (routes hub) m)) s takes))

-- a machine can't have a signal that it neither makes nor takes
pub foreign-signal : (hub : Hub) (m : ℕ) (globals : List ℕ) (s : ℕ) → has globals s ≡ true → makes_or_takes hub m s ≡ false
    → ¬ ((t : ℕ) → Contains globals t ↔ (MakesBy hub m t ⊎ Takes (routes hub) m t))
foreign-signal hub m globals s there foreign signals = elim ((signals s).0 (has-contains globals s there)) [
  | inl made ↦ true≢false (sym (or_left (makes hub m s) (has (signals_of (routes hub) (channels_to (routes hub) m)) s) (shows-makes hub m s made)) ∙ foreign)
  | inr got ↦ true≢false (sym (or_right (makes hub m s) (has (signals_of (routes hub) (channels_to (routes hub) m)) s) (contains-has (signals_of (routes hub) (channels_to (routes hub) m)) s got)) ∙ foreign)
]

-- a machine can't lack a signal that it makes
pub lost-signal : (hub : Hub) (m : ℕ) (globals : List ℕ) (s : ℕ) → s < length hub.circuit.signals → makes hub m s ≡ true → has globals s ≡ false
    → ¬ ((t : ℕ) → Contains globals t ↔ (MakesBy hub m t ⊎ Takes (routes hub) m t))
lost-signal hub m globals s known made lost signals =
    true≢false (sym (contains-has globals s ((signals s).1 (inl (makes-shows hub m s known made)))) ∙ lost)
