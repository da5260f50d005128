-- A listed memory gives the data of its readers, in their order; and its ports are no more than the routed channels.
use Rattle.std.proofs.Common.{◌≡◌, ◌≢◌, ℕ, zero, suc, ◌+◌, ◌<◌, ◌≤◌, List, [], ◌∷◌, ◌++◌, length, map, Bool, true, false, true≢false, eq-eqb, refl, sym, ◌∙◌, ap, ap₂, arith}
use Rattle.std.specs.Prelude.{filter, cond, ◌==◌, if◌then◌else◌}
use Rattle.std.proofs.lemmas.Bool.{ne_eqb}
use Rattle.std.proofs.lemmas.List.{append-nil, length-append, length-map}
use Rattle.std.proofs.lemmas.List.Elements.{filter-append}
use Rattle.std.proofs.lemmas.Simd.{map-map}
use Rattle.gg_flat_tree.specs.declared.tree.InstancePort.{InstancePort}
use Rattle.gg_flat.specs.declared.memory.Reader.{Reader}
use Rattle.gg_flat.specs.declared.memory.Writer.{Writer}
use Rattle.gg_flat.specs.Line.{value_at}
use Rattle.gg_flat.specs.Circuit.{FlatCircuit, readers_at}
use Rattle.gg_flat_tree.specs.Tree.{InstanceTree, instance_at, memory_at, parent_place}
use Rattle.gg_flat_tree.specs.Scoped.{writers_at}
use Rattle.gg_partfile.specs.declared.request.BridgeEntry.{BridgeEntry}
use Rattle.gg_cut_plan.specs.Ports.{ports_of, giver_of}
use Rattle.gg_cut_plan.proofs.PortLemmas.{giver-low}
use Rattle.gg_cut_plan.specs.declared.listed.Listed.{Listed}
use Rattle.gg_cut_plan.specs.declared.wires.Wire.{Wire as Link}
use Rattle.gg_cut_plan.specs.Listed.{owner_of, owner_of_instance}
use Rattle.gg_cut_plan.specs.Machines.{first_memory}
use Rattle.gg_cut_plan.specs.Channels.{wire, numbered, flattened, port_wire, port_wires, reader_wires, writer_wires, field_wires, input_wires, output_wires, wires_of}
use Rattle.gg_cut_plan.specs.Direct.{hub_of, routes}
use Rattle.gg_cut_plan.specs.Plan.{wire_at, channels_to, channels_from, signals_of}
use Rattle.gg_cut_plan.proofs.WireLemmas.{Each, Each-append, Each-numbered, filter-none, signals-from, signals-to, unit_or_hub-below}
use Rattle.gg_cut_plan.proofs.RangeLemmas.{filter-few}
use Rattle.gg_cut_routes.proofs.RouteLemmas.{IsBase}
use Rattle.gg_cut_routes.proofs.UnitLemmas.{ins-still}

-- ---- lists of links by number

-- joined lists, of which only one has items that pass a test: the items that pass are those of this list
filter-one : (test : Link → Bool) (f : ℕ → ℕ → List Link) (n : ℕ) (xs : List ℕ) (i : ℕ) → i < length xs → ((k x : ℕ) → (k ≡ n + i → ⊥) → Each (λ w. test w ≡ false) (f k x)) → filter test (numbered f n xs) ≡ filter test (f (n + i) (value_at xs i))
filter-one test f n [] i lt others = absurd (omega (arith, lt))
filter-one test f n (x ∷ xs) zero lt others =
    filter-append test (f n x) (numbered f (suc n) xs)
    ∙ ap (λ (l : List Link). filter test (f n x) ++ l) (filter-none test (numbered f (suc n) xs) (Each-numbered (λ w. test w ≡ false) f (suc n) xs (λ k y le low. others k y (λ same. omega (arith, same, le)))))
    ∙ append-nil (filter test (f n x))
    ∙ ap (λ k. filter test (f k x)) (let same : n ≡ n + 0 = omega arith in same)
filter-one test f n (x ∷ xs) (suc i) lt others =
    filter-append test (f n x) (numbered f (suc n) xs)
    ∙ ap (λ (l : List Link). l ++ filter test (numbered f (suc n) xs)) (filter-none test (f n x) (others n x (λ same. omega (arith, same))))
    ∙ filter-one test f (suc n) xs i (omega (arith, lt)) (λ k y other. others k y (λ same. other (omega (arith, same))))
    ∙ ap (λ k. filter test (f k (value_at xs i))) (let same : suc n + i ≡ n + suc i = omega arith in same)

-- the items of two lists that pass
both-long : (test : Link → Bool) (xs ys : List Link) → length (filter test (xs ++ ys)) ≡ length (filter test xs) + length (filter test ys)
both-long test xs ys = ap length (filter-append test xs ys) ∙ length-append (filter test xs) (filter test ys)

-- an item that passes is one more
one-long : (test : Link → Bool) (x : Link) (xs ys : List Link) → test x ≡ true → suc (length (filter test ys)) ≤ length (filter test (x ∷ xs ++ ys))
one-long test x xs ys is = omega (arith, ap (λ b. length (cond b (x ∷ filter test (xs ++ ys)) (filter test (xs ++ ys)))) is, both-long test xs ys)

-- of all lists joined at least as many items pass as of one of them
filter-long : (test : Link → Bool) (f : ℕ → ℕ → List Link) (n : ℕ) (xs : List ℕ) (i : ℕ) → i < length xs → length (filter test (f (n + i) (value_at xs i))) ≤ length (filter test (numbered f n xs))
filter-long test f n [] i lt = absurd (omega (arith, lt))
filter-long test f n (x ∷ xs) zero lt =
    let same : length (filter test (f (n + 0) x)) ≡ length (filter test (f n x)) = ap (λ k. length (filter test (f k x))) (let zero_more : n + 0 ≡ n = omega arith in zero_more) in
    omega (arith, same, both-long test (f n x) (numbered f (suc n) xs))
filter-long test f n (x ∷ xs) (suc i) lt =
    let same : length (filter test (f (n + suc i) (value_at xs i))) ≡ length (filter test (f (suc n + i) (value_at xs i))) = ap (λ k. length (filter test (f k (value_at xs i)))) (let one_more : n + suc i ≡ suc n + i = omega arith in one_more) in
    let rest = filter-long test f (suc n) xs i (omega (arith, lt)) in
    omega (arith, same, rest, both-long test (f n x) (numbered f (suc n) xs))

-- ---- what machine m gives of a memory's channels

module _ (m outside : ℕ) (other : outside ≡ m → ⊥) where
  -- of the three links of a reader the machine gives only the last
  keep : (b s : Bool) → b ≡ false → s ≡ true → (u v w : Link) (rest : List Link)
      → cond b (u ∷ cond b (v ∷ cond s (w ∷ rest) rest) (cond s (w ∷ rest) rest)) (cond b (v ∷ cond s (w ∷ rest) rest) (cond s (w ∷ rest) rest)) ≡ w ∷ rest
  keep true s not is u v w rest = absurd (true≢false not)
  keep false true not is u v w rest = refl
  keep false false not is u v w rest = absurd (true≢false (sym is))

  readers-give : (readers : List Reader) → filter (λ w. w.producer == m) (flattened (reader_wires outside m) readers) ≡ map (λ reader. wire reader.word m outside) readers
  readers-give [] = refl
  readers-give (reader ∷ readers) =
      keep (outside == m) (m == m) (ne_eqb outside m other) (eq-eqb m m refl) (wire reader.addr outside m) (wire reader.en outside m) (wire reader.word m outside) (filter (λ w. w.producer == m) (flattened (reader_wires outside m) readers))
      ∙ ap (λ (l : List Link). wire reader.word m outside ∷ l) (readers-give readers)

  writers-give : (k : ℕ) (writers : List Writer) → Each (λ w. (w.producer == m) ≡ false) (flattened (writer_wires outside k) writers)
  writers-give k [] = tt
  writers-give k (writer ∷ writers) =
      let not = ne_eqb outside m other in
      Each-append (λ w. (w.producer == m) ≡ false) (writer_wires outside k writer) (flattened (writer_wires outside k) writers) (not, (not, (not, (not, tt)))) (writers-give k writers)

  -- none of the links of another memory
  readers-other : (k : ℕ) → (k ≡ m → ⊥) → (readers : List Reader) → Each (λ w. (w.producer == m) ≡ false) (flattened (reader_wires outside k) readers)
  readers-other k distinct [] = tt
  readers-other k distinct (reader ∷ readers) =
      let not = ne_eqb outside m other in
      Each-append (λ w. (w.producer == m) ≡ false) (reader_wires outside k reader) (flattened (reader_wires outside k) readers) (not, (not, (ne_eqb k m distinct, tt))) (readers-other k distinct readers)

  -- none of the links of a unit
  port-other : (k : ℕ) → (k ≡ m → ⊥) → (ports : List InstancePort) → Each (λ w. (w.producer == m) ≡ false) (map (port_wire outside k) ports)
  port-other k distinct [] = tt
  port-other k distinct (port ∷ ports) = (by port.is_input, port-other k distinct ports)
    where
      by : (b : Bool) → ((if b then wire port.signal outside k else wire port.signal k outside).producer == m) ≡ false
      by true = ne_eqb outside m other
      by false = ne_eqb k m distinct

-- ---- how many channels a memory takes

module _ (m outside : ℕ) where
  abbrev into : Link → Bool
  into w = w.consumer == m

  readers-long : (readers : List Reader) → length readers ≤ length (filter into (flattened (reader_wires outside m) readers))
  readers-long [] = omega arith
  readers-long (reader ∷ readers) =
      let rest = readers-long readers in
      let more = one-long into (wire reader.addr outside m) (wire reader.en outside m ∷ wire reader.word m outside ∷ []) (flattened (reader_wires outside m) readers) (eq-eqb m m refl) in
      omega (arith, rest, more)

  writers-long : (writers : List Writer) → length writers ≤ length (filter into (flattened (writer_wires outside m) writers))
  writers-long [] = omega arith
  writers-long (writer ∷ writers) =
      let rest = writers-long writers in
      let more = one-long into (wire writer.addr outside m) (wire writer.en outside m ∷ wire writer.word outside m ∷ wire writer.mask outside m ∷ []) (flattened (writer_wires outside m) writers) (eq-eqb m m refl) in
      omega (arith, rest, more)

-- ---- a listed memory

module _ (circuit : FlatCircuit) (tree : InstanceTree) (listed : Listed) (entries : List BridgeEntry) (m i : ℕ) (lt : i < length listed.memories) (is : first_memory listed + i ≡ m) (apart : (k : ℕ) → k < length circuit.outs → owner_of circuit tree listed (value_at circuit.outs k) ≢ m) where
  abbrev own : ℕ
  own = (memory_at tree (value_at listed.memories i)).memory

  below : (k : ℕ) → owner_of_instance tree listed.units k ≡ m → ⊥
  below k same = let low = unit_or_hub-below tree listed.units k in omega (arith, low, same, is)

  abbrev sources : List Link
  sources = numbered (input_wires (ports_of circuit tree listed entries)) 0 circuit.ins

  abbrev ports : List Link
  ports = numbered (port_wires tree listed.units) 1 listed.units

  abbrev fields : List Link
  fields = numbered (field_wires circuit tree listed.units) (first_memory listed) listed.memories

  abbrev trays : List Link
  trays = numbered (output_wires circuit tree listed (ports_of circuit tree listed entries)) 0 circuit.outs

  abbrev gives : Link → Bool
  gives w = w.producer == m

  no-source : filter gives sources ≡ []
  no-source =
      filter-none gives sources
      (Each-numbered (λ w. gives w ≡ false) (input_wires (ports_of circuit tree listed entries)) 0 circuit.ins
      (λ k s le high. (ne_eqb (giver_of (ports_of circuit tree listed entries) k) m (λ same. let low = giver-low (ports_of circuit tree listed entries) k in omega (arith, same, low, is, lt)), tt)))

  no-port : filter gives ports ≡ []
  no-port =
      filter-none gives ports (Each-numbered (λ w. gives w ≡ false) (port_wires tree listed.units) 1 listed.units (λ k unit le high.
      port-other m (owner_of_instance tree listed.units (parent_place (instance_at tree unit).parent)) (below (parent_place (instance_at tree unit).parent)) k (λ same. omega (arith, same, high, is)) (instance_at tree unit).ports))

  each-tray : (k : ℕ) (outs : List ℕ) → ((i : ℕ) → i < length outs → owner_of circuit tree listed (value_at outs i) ≢ m) → Each (λ w. gives w ≡ false) (numbered (output_wires circuit tree listed (ports_of circuit tree listed entries)) k outs)
  each-tray k [] other = tt
  each-tray k (s ∷ outs) other = (ne_eqb (owner_of circuit tree listed s) m (other 0 (omega arith)), each-tray (suc k) outs (λ i lt. other (suc i) (omega (arith, lt))))

  no-tray : filter gives trays ≡ []
  no-tray = filter-none gives trays (each-tray 0 circuit.outs apart)

  other-memory : (k j : ℕ) → (k ≡ first_memory listed + i → ⊥) → Each (λ w. gives w ≡ false) (field_wires circuit tree listed.units k j)
  other-memory k j distinct =
      let outside = owner_of_instance tree listed.units (memory_at tree j).instance in
      let another : k ≡ m → ⊥ = λ same. distinct (omega (arith, same, is)) in
      Each-append (λ w. gives w ≡ false) (flattened (reader_wires outside k) (readers_at circuit (memory_at tree j).memory)) (flattened (writer_wires outside k) (writers_at circuit (memory_at tree j).memory))
      (readers-other m outside (below (memory_at tree j).instance) k another (readers_at circuit (memory_at tree j).memory))
      (writers-give m outside (below (memory_at tree j).instance) k (writers_at circuit (memory_at tree j).memory))

  abbrev outer : ℕ
  outer = owner_of_instance tree listed.units (memory_at tree (value_at listed.memories i)).instance

  own-words : filter gives (field_wires circuit tree listed.units m (value_at listed.memories i)) ≡ map (λ reader. wire reader.word m outer) (readers_at circuit own)
  own-words =
      let inside = below (memory_at tree (value_at listed.memories i)).instance in
      let from_readers = flattened (reader_wires outer m) (readers_at circuit own) in
      let from_writers = flattened (writer_wires outer m) (writers_at circuit own) in
      filter-append gives from_readers from_writers
      ∙ ap (λ (l : List Link). filter gives from_readers ++ l) (filter-none gives from_writers (writers-give m outer inside m (writers_at circuit own)))
      ∙ append-nil (filter gives from_readers)
      ∙ readers-give m outer inside (readers_at circuit own)

  -- the signals of the channels that the memory gives are the data of its readers
  pub memory-gives : signals_of (wires_of circuit tree listed entries) (channels_from (wires_of circuit tree listed entries) m) ≡ map (λ (reader : Reader). reader.word) (readers_at circuit own)
  memory-gives =
      let words = map (λ (reader : Reader). wire reader.word m outer) (readers_at circuit own) in
      signals-from (wires_of circuit tree listed entries) m
      ∙ ap (map (λ (w : Link). w.signal))
      (filter-append gives sources (ports ++ (fields ++ trays))
      ∙ ap₂ (λ (xs ys : List Link). xs ++ ys) no-source
      (filter-append gives ports (fields ++ trays)
      ∙ ap₂ (λ (xs ys : List Link). xs ++ ys) no-port
      (filter-append gives fields trays
      ∙ ap₂ (λ (xs ys : List Link). xs ++ ys)
      (filter-one gives (field_wires circuit tree listed.units) (first_memory listed) listed.memories i lt other-memory
      ∙ ap (λ k. filter gives (field_wires circuit tree listed.units k (value_at listed.memories i))) is
      ∙ own-words)
      no-tray
      ∙ append-nil words)))
      ∙ map-map (λ (w : Link). w.signal) (λ (reader : Reader). wire reader.word m outer) (readers_at circuit own)

-- a listed memory has no more ports than there are routed channels
pub memory-few : (circuit : FlatCircuit) (tree : InstanceTree) (listed : Listed) (piped : ℕ → Bool) (entries : List BridgeEntry) (direct : Bool) → IsBase (hub_of circuit tree listed piped entries direct) → (i : ℕ) → i < length listed.memories
    → length (readers_at circuit (memory_at tree (value_at listed.memories i)).memory) + length (writers_at circuit (memory_at tree (value_at listed.memories i)).memory) ≤ length (routes (hub_of circuit tree listed piped entries direct))
memory-few circuit tree listed piped entries direct base i lt =
    let hub = hub_of circuit tree listed piped entries direct in
    let own = (memory_at tree (value_at listed.memories i)).memory in
    let outside = owner_of_instance tree listed.units (memory_at tree (value_at listed.memories i)).instance in
    let m = first_memory listed + i in
    let to : Link → Bool = λ w. w.consumer == m in
    let from_readers = flattened (reader_wires outside m) (readers_at circuit own) in
    let from_writers = flattened (writer_wires outside m) (writers_at circuit own) in
    let sources = numbered (input_wires (ports_of circuit tree listed entries)) 0 circuit.ins in
    let ports = numbered (port_wires tree listed.units) 1 listed.units in
    let fields = numbered (field_wires circuit tree listed.units) (first_memory listed) listed.memories in
    let trays = numbered (output_wires circuit tree listed (ports_of circuit tree listed entries)) 0 circuit.outs in
    let taken : length (channels_to (routes hub) m) ≡ length (filter to (sources ++ (ports ++ (fields ++ trays)))) =
    sym (length-map (channels_to (routes hub) m) (λ c. (wire_at (routes hub) c).signal))
    ∙ ap length (ins-still hub base m (λ same. omega (arith, same)) ∙ signals-to hub.base m)
    ∙ length-map (filter to hub.base) (λ (w : Link). w.signal) in
    omega (
      arith,
      taken,
      filter-few (λ c. (wire_at (routes hub) c).consumer == m) 0 (length (routes hub)),
      filter-long to (field_wires circuit tree listed.units) (first_memory listed) listed.memories i lt,
      readers-long m outside (readers_at circuit own),
      writers-long m outside (writers_at circuit own),
      both-long to from_readers from_writers,
      both-long to fields trays,
      both-long to ports (fields ++ trays),
      both-long to sources (ports ++ (fields ++ trays)),
    )
