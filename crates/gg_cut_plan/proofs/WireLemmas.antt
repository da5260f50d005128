-- The channels that a machine gives.
use Rattle.std.proofs.Common.{◌≡◌, ℕ, zero, suc, ◌+◌, ◌<◌, ◌≤◌, List, [], ◌∷◌, ◌++◌, length, map, Bool, true, false, refl, ◌∙◌, ap, ap₂, subst, arith}
use Rattle.std.specs.Prelude.{filter, cond, ◌==◌, if◌then◌else◌, Option, Some, None, All}
use Rattle.std.specs.List.{range_with_len}
use Rattle.std.proofs.lemmas.List.{get_or_default}
use Rattle.gg_flat_tree.specs.declared.tree.InstancePort.{InstancePort}
use Rattle.gg_flat.specs.declared.memory.Reader.{Reader}
use Rattle.gg_flat.specs.declared.memory.Writer.{Writer}
use Rattle.gg_flat.specs.Circuit.{FlatCircuit, readers_at}
use Rattle.gg_flat_tree.specs.Tree.{InstanceTree, instance_at, memory_at, parent_place}
use Rattle.gg_flat_tree.specs.Scoped.{writers_at}
use Rattle.gg_cut_plan.specs.declared.listed.Listed.{Listed}
use Rattle.gg_cut_plan.specs.Listed.{unit_or_hub, memory_or, owner_of_instance, owner_of, has_signal, has_field, lies, first_place}
use Rattle.gg_cut_plan.proofs.PathLemmas.{first_place-Some}
use Rattle.gg_cut_plan.specs.declared.wires.Wire.{Wire}
use Rattle.gg_partfile.specs.declared.request.BridgeEntry.{BridgeEntry}
use Rattle.gg_cut_plan.specs.Ports.{ports_of}
use Rattle.gg_cut_plan.specs.Machines.{first_memory, first_source}
use Rattle.gg_cut_plan.specs.Channels.{wire, numbered, flattened, port_wire, port_wires, reader_wires, writer_wires, field_wires, input_wires, output_wires, wires_of}
use Rattle.gg_cut_plan.specs.Plan.{wire_at, channels_to, channels_from, signals_of, givens_of}

-- ---- a property of each wire, by recursion

abbrev pub Each : (Wire → Type 0) → List Wire → Type 0
Each P [] = Unit {0}
Each P (w ∷ wires) = P w × Each P wires

pub Each-append : (P : Wire → Type 0) (xs ys : List Wire) → Each P xs → Each P ys → Each P (xs ++ ys)
Each-append P [] ys a b = b
Each-append P (x ∷ xs) ys a b = (a.0, Each-append P xs ys a.1 b)

pub Each-numbered : {A : Type 0} (P : Wire → Type 0) (f : ℕ → A → List Wire) (n : ℕ) (xs : List A) → ((k : ℕ) (x : A) → n ≤ k → k < n + length xs → Each P (f k x)) → Each P (numbered f n xs)
Each-numbered P f n [] each = tt
Each-numbered P f n (x ∷ xs) each =
    Each-append P (f n x) (numbered f (suc n) xs) (each n x (omega arith) (omega arith)) (Each-numbered P f (suc n) xs (λ k y le lt. each k y (omega arith) (omega arith)))

Each-flattened : {A : Type 0} (P : Wire → Type 0) (f : A → List Wire) (xs : List A) → ((x : A) → Each P (f x)) → Each P (flattened f xs)
Each-flattened P f [] each = tt
Each-flattened P f (x ∷ xs) each = Each-append P (f x) (flattened f xs) (each x) (Each-flattened P f xs each)

Each-map : {A : Type 0} (P : Wire → Type 0) (f : A → Wire) (xs : List A) → ((x : A) → P (f x)) → Each P (map f xs)
Each-map P f [] each = tt
Each-map P f (x ∷ xs) each = (each x, Each-map P f xs each)

-- ---- filters

pub filter-none : (test : Wire → Bool) (xs : List Wire) → Each (λ w. test w ≡ false) xs → filter test xs ≡ []
filter-none test [] each = refl
filter-none test (x ∷ xs) each = ap (λ b. cond b (x ∷ filter test xs) (filter test xs)) each.0 ∙ filter-none test xs each.1

-- the channels that pass a test, by their numbers, are the wires that pass it
filter-numbers : (test : Wire → Bool) (all : List Wire) (a : ℕ) (xs : List Wire) → ((k : ℕ) → k < length xs → wire_at all (a + k) ≡ wire_at xs k) → map (wire_at all) (filter (λ c. test (wire_at all c)) (range_with_len a (length xs))) ≡ filter test xs
filter-numbers test all a [] same = refl
filter-numbers test all a (x ∷ xs) same =
    let here : wire_at all a ≡ x = ap (wire_at all) (let place : a ≡ a + 0 = omega arith in place) ∙ same 0 (omega arith) in
    let rest = filter-numbers test all (a + 1) xs (λ k lt. ap (wire_at all) (let place : a + 1 + k ≡ a + suc k = omega arith in place) ∙ same (suc k) (omega arith)) in
    let later = filter (λ c. test (wire_at all c)) (range_with_len (a + 1) (length xs)) in
    by here later rest (test (wire_at all a)) (ap test here)
  where
    by : wire_at all a ≡ x → (later : List ℕ) → map (wire_at all) later ≡ filter test xs → (b : Bool) → b ≡ test x → map (wire_at all) (cond b (a ∷ later) later) ≡ cond (test x) (x ∷ filter test xs) (filter test xs)
    by here later rest true e = ap₂ (λ w l. w ∷ l) here rest ∙ ap (λ b. cond b (x ∷ filter test xs) (filter test xs)) e
    by here later rest false e = rest ∙ ap (λ b. cond b (x ∷ filter test xs) (filter test xs)) e

map-signal : (wires : List Wire) (channels : List ℕ) → signals_of wires channels ≡ map (λ (w : Wire). w.signal) (map (wire_at wires) channels)
map-signal wires [] = refl
map-signal wires (c ∷ channels) = ap (λ l. (wire_at wires c).signal ∷ l) (map-signal wires channels)

-- the signals of the channels that a machine gives
pub signals-from : (wires : List Wire) (m : ℕ) → signals_of wires (channels_from wires m) ≡ map (λ (w : Wire). w.signal) (filter (λ w. w.producer == m) wires)
signals-from wires m =
    map-signal wires (channels_from wires m)
    ∙ ap (map (λ (w : Wire). w.signal)) (filter-numbers (λ w. w.producer == m) wires 0 wires (λ k lt. ap (wire_at wires) (let place : 0 + k ≡ k = omega arith in place)))

-- the signals of the channels that a machine takes
pub signals-to : (wires : List Wire) (m : ℕ) → signals_of wires (channels_to wires m) ≡ map (λ (w : Wire). w.signal) (filter (λ w. w.consumer == m) wires)
signals-to wires m =
    map-signal wires (channels_to wires m)
    ∙ ap (map (λ (w : Wire). w.signal)) (filter-numbers (λ w. w.consumer == m) wires 0 wires (λ k lt. ap (wire_at wires) (let place : 0 + k ≡ k = omega arith in place)))

-- ---- who gives what

abbrev Below : ℕ → Wire → Type 0
Below n w = w.producer < n

pub unit-below : (test : ℕ → Bool) (units : List ℕ) → unit_or_hub (first_place test units) < suc (length units)
unit-below test units = by (first_place test units) refl
  where
    by : (found : Option ℕ) → first_place test units ≡ found → unit_or_hub found < suc (length units)
    by None e = omega arith
    by (Some u) e = let lt = (first_place-Some test units u e).within in omega (arith, lt)

pub unit_or_hub-below : (tree : InstanceTree) (units : List ℕ) (k : ℕ) → owner_of_instance tree units k < suc (length units)
unit_or_hub-below tree units k = unit-below (λ unit. lies tree k unit) units

-- a signal belongs to a machine before the first source
pub owner-below : (circuit : FlatCircuit) (tree : InstanceTree) (listed : Listed) (s : ℕ) → owner_of circuit tree listed s < first_source listed
owner-below circuit tree listed s = by (first_place (has_field circuit tree s) listed.memories) refl
  where
    unit : ℕ
    unit = unit_or_hub (first_place (has_signal tree s) listed.units)

    by : (found : Option ℕ) → first_place (has_field circuit tree s) listed.memories ≡ found → memory_or (length listed.units) unit found < first_source listed
    by None e = let low = unit-below (has_signal tree s) listed.units in omega (arith, low)
    by (Some j) e = let lt = (first_place-Some (has_field circuit tree s) listed.memories j e).within in omega (arith, lt)

port-below : (n outside unit : ℕ) → outside < n → unit < n → (port : InstancePort) → Below n (port_wire outside unit port)
port-below n outside unit lo lu port = by port.is_input
  where
    by : (b : Bool) → Below n (if b then wire port.signal outside unit else wire port.signal unit outside)
    by true = lo
    by false = lu

reader-below : (n outside memory : ℕ) → outside < n → memory < n → (reader : Reader) → Each (Below n) (reader_wires outside memory reader)
reader-below n outside memory lo lm reader = (lo, (lo, (lm, tt)))

writer-below : (n outside memory : ℕ) → outside < n → (writer : Writer) → Each (Below n) (writer_wires outside memory writer)
writer-below n outside memory lo writer = (lo, (lo, (lo, (lo, tt))))

module _ (circuit : FlatCircuit) (tree : InstanceTree) (listed : Listed) (entries : List BridgeEntry) where
  abbrev pub rest_wires : List Wire
  rest_wires =
      numbered (port_wires tree listed.units) 1 listed.units
      ++ (numbered (field_wires circuit tree listed.units) (first_memory listed) listed.memories
      ++ numbered (output_wires circuit tree listed (ports_of circuit tree listed entries)) 0 circuit.outs)

  -- a channel that isn't a top input's is given by a machine before the first source
  pub rest-below : Each (Below (first_source listed)) rest_wires
  rest-below =
      let n = first_source listed in
      Each-append (Below n) (numbered (port_wires tree listed.units) 1 listed.units) _
      (Each-numbered (Below n) (port_wires tree listed.units) 1 listed.units (λ k unit le lt.
      let outside = unit_or_hub-below tree listed.units (parent_place (instance_at tree unit).parent) in
      Each-map (Below n) (port_wire (owner_of_instance tree listed.units (parent_place (instance_at tree unit).parent)) k) (instance_at tree unit).ports
      (port-below n (owner_of_instance tree listed.units (parent_place (instance_at tree unit).parent)) k (omega (arith, outside)) (omega (arith, lt)))))
      (Each-append (Below n) (numbered (field_wires circuit tree listed.units) (first_memory listed) listed.memories) _
      (Each-numbered (Below n) (field_wires circuit tree listed.units) (first_memory listed) listed.memories (λ k j le lt.
      let outside = owner_of_instance tree listed.units (memory_at tree j).instance in
      let lo : outside < n = omega (arith, unit_or_hub-below tree listed.units (memory_at tree j).instance) in
      Each-append (Below n) (flattened (reader_wires outside k) (readers_at circuit (memory_at tree j).memory)) (flattened (writer_wires outside k) (writers_at circuit (memory_at tree j).memory))
      (Each-flattened (Below n) (reader_wires outside k) (readers_at circuit (memory_at tree j).memory) (reader-below n outside k lo lt))
      (Each-flattened (Below n) (writer_wires outside k) (writers_at circuit (memory_at tree j).memory) (writer-below n outside k lo))))
      (Each-numbered (Below n) (output_wires circuit tree listed (ports_of circuit tree listed entries)) 0 circuit.outs (λ k s le lt. (owner-below circuit tree listed s, tt))))

-- ---- the signals by which channels are given

abbrev IsSame : Wire → Type 0
IsSame w = w.given ≡ w.signal

port-same : (outside unit : ℕ) (port : InstancePort) → IsSame (port_wire outside unit port)
port-same outside unit port = by port.is_input
  where
    by : (b : Bool) → IsSame (if b then wire port.signal outside unit else wire port.signal unit outside)
    by true = refl
    by false = refl

module _ (circuit : FlatCircuit) (tree : InstanceTree) (listed : Listed) (entries : List BridgeEntry) where
  same-each : Each IsSame (wires_of circuit tree listed entries)
  same-each =
      Each-append IsSame (numbered (input_wires (ports_of circuit tree listed entries)) 0 circuit.ins) _
      (Each-numbered IsSame (input_wires (ports_of circuit tree listed entries)) 0 circuit.ins (λ k s le lt. (refl, tt)))
      (Each-append IsSame (numbered (port_wires tree listed.units) 1 listed.units) _
      (Each-numbered IsSame (port_wires tree listed.units) 1 listed.units (λ k unit le lt.
      let outside = owner_of_instance tree listed.units (parent_place (instance_at tree unit).parent) in
      Each-map IsSame (port_wire outside k) (instance_at tree unit).ports (port-same outside k)))
      (Each-append IsSame (numbered (field_wires circuit tree listed.units) (first_memory listed) listed.memories) _
      (Each-numbered IsSame (field_wires circuit tree listed.units) (first_memory listed) listed.memories (λ k j le lt.
      let outside = owner_of_instance tree listed.units (memory_at tree j).instance in
      Each-append IsSame (flattened (reader_wires outside k) (readers_at circuit (memory_at tree j).memory)) (flattened (writer_wires outside k) (writers_at circuit (memory_at tree j).memory))
      (Each-flattened IsSame (reader_wires outside k) (readers_at circuit (memory_at tree j).memory) (λ reader. (refl, (refl, (refl, tt)))))
      (Each-flattened IsSame (writer_wires outside k) (writers_at circuit (memory_at tree j).memory) (λ writer. (refl, (refl, (refl, (refl, tt))))))))
      (Each-numbered IsSame (output_wires circuit tree listed (ports_of circuit tree listed entries)) 0 circuit.outs (λ k s le lt. (refl, tt)))))

  at-each : (wires : List Wire) → Each IsSame wires → (c : ℕ) → IsSame (wire_at wires c)
  at-each [] each c = refl
  at-each (w ∷ wires) each zero = each.0
  at-each (w ∷ wires) each (suc c) = at-each wires each.1 c

  -- a channel of a cut is given by the signal that its consumer takes
  pub given-same : (c : ℕ) → (wire_at (wires_of circuit tree listed entries) c).given ≡ (wire_at (wires_of circuit tree listed entries) c).signal
  given-same = at-each (wires_of circuit tree listed entries) same-each

  pub givens-same : (channels : List ℕ) → givens_of (wires_of circuit tree listed entries) channels ≡ signals_of (wires_of circuit tree listed entries) channels
  givens-same [] = refl
  givens-same (c ∷ channels) = ap₂ (λ s l. s ∷ l) (given-same c) (givens-same channels)

  pub all-plain : All (λ w. w.given ≡ w.signal) (wires_of circuit tree listed entries)
  all-plain i d lt = subst (λ (w : Wire). w.given ≡ w.signal) (get_or_default (wires_of circuit tree listed entries) i (wire 0 0 0) d lt) (given-same i)
