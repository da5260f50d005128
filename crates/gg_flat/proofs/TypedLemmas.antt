-- Lists of typed values, and why a driver of a well-formed circuit can be evaluated on them.
use Rattle.std.proofs.Common.{◌≡◌, ◌≢◌, ℕ, zero, suc, ◌<◌, ◌^◌, ℤ, pos, negsuc, List, [], ◌∷◌, length, map, set, get_or, replicate, refl, sym, ◌∙◌, ap, subst, arith, nat_eq, Bool, true, false, true≢false}
use Rattle.std.specs.Prelude.{◌==◌, if◌then◌else◌, slice_index_or}
use Rattle.std.proofs.lemmas.Bool.Decides.{Decides-eqb}
use Rattle.std.proofs.lemmas.List.{get_or-set_same, get_or-set_other, length-map, length-set, get_or-map, get_or_default, length-replicate, get_or-replicate}
use Rattle.std.proofs.lemmas.Nat.{pow_pos}
use Rattle.gg_bits.specs.Value.{pattern_of}
use Rattle.gg_bits.specs.Shape.{Shape, shape, uint, Fits}
use Rattle.gg_flat.specs.declared.line.Node.{Node}
use Rattle.gg_flat.specs.declared.line.Op.{Op}
use Rattle.gg_flat.specs.declared.line.Op.TheVariants.{Ref, Literal, One, Two, Fix, Mux}
use Rattle.gg_flat.specs.declared.memory.Latency.{Latency}
use Rattle.gg_flat.specs.declared.memory.Latency.TheVariants.{Zero, One as Late}
use Rattle.gg_flat.specs.declared.memory.Reader.{Reader}
use Rattle.gg_flat.specs.declared.memory.Memory.{Memory}
use Rattle.gg_flat.specs.declared.piece.Signal.{Signal}
use Rattle.gg_flat.specs.declared.piece.Driver.{Driver}
use Rattle.gg_flat.specs.declared.piece.Driver.TheVariants.{Input, Held, MemoryWord, ReadRegister, Computed}
use Rattle.gg_flat.specs.Line.{shape_at, value_at, shapes_of, op_at, AreTyped, HasShape, HasType, IsLine, IsSource}
use Rattle.gg_flat.specs.inside.Line.{HasValue}
use Rattle.gg_flat.specs.Circuit.{FlatCircuit, signal_shapes, register_shapes, driver_at, readers_at, latency_at, reader_at}
use Rattle.gg_flat.specs.Memory.{read_word, read_count, bank_at}
use Rattle.gg_flat.specs.WellFormed.{IsWellFormed, MayDrive, IsDataOf, IsReader, reader_driver}
use Rattle.gg_flat.specs.State.{State, IsState}
use Rattle.gg_flat.specs.Settled.{IsInputs, in_shapes, driver_value}
use Rattle.gg_flat.specs.inside.Settled.{HasSource}
use Rattle.gg_flat.proofs.ListLemmas.{some-item}

-- a pattern of w bits is below 2 ^ w
pub pattern_of-lt : (w : ℕ) (z : ℤ) → pattern_of w z < 2 ^ w
pattern_of-lt w (pos a) = omega (arith, pow_pos w)
pattern_of-lt w (negsuc a) = omega (arith, pow_pos w)

-- typed values stay typed if one is replaced by a value of its type
pub AreTyped-set : (shapes : List Shape) (values : List ℕ) (i value : ℕ) → AreTyped shapes values → i < length shapes → Fits (shape_at shapes i) value → AreTyped shapes (set values i value)
AreTyped-set shapes values i value typed within fits =
    record {
      count = length-set values i value ∙ typed.count;
      fits = λ k known. by k known (nat_eq k i) refl;
    }
  where
    by : (k : ℕ) → k < length shapes → (b : Bool) → nat_eq k i ≡ b → Fits (shape_at shapes k) (value_at (set values i value) k)
    by k known true e =
        let same : k ≡ i = (Decides-eqb k i).0 e in
        subst (λ x. Fits (shape_at shapes x) (value_at (set values i value) x)) (sym same) (subst (λ x. Fits (shape_at shapes i) x) (sym (get_or-set_same values i value 0 (omega (arith, within, typed.count)))) fits)
    by k known false e =
        let other : k ≢ i = λ same. true≢false (sym ((Decides-eqb k i).1 same) ∙ e) in
        subst (λ x. Fits (shape_at shapes k) x) (sym (get_or-set_other values i k value 0 other)) (typed.fits k known)

-- references that have a type have a value of that type
pub HasShape-value : (shapes : List Shape) (values : List ℕ) (nodes : List Shape) (k : ℕ) (to : Shape) (op : Op) → AreTyped shapes values → HasShape (HasType shapes) nodes k to op → HasShape (HasValue values) nodes k to op
HasShape-value shapes values nodes k to (Ref s) typed is = (omega (arith, is.0, typed.count), subst (λ x. Fits x (value_at values s)) is.1 (typed.fits s is.0))
HasShape-value shapes values nodes k to (Literal value) typed is = is
HasShape-value shapes values nodes k to (One op i) typed is = is
HasShape-value shapes values nodes k to (Two op i j) typed is = is
HasShape-value shapes values nodes k to (Fix op i n m) typed is = is
HasShape-value shapes values nodes k to (Mux c i j) typed is = is

pub IsLine-value : (shapes : List Shape) (values : List ℕ) (nodes : List Node) → AreTyped shapes values → IsLine (HasType shapes) nodes → IsLine (HasValue values) nodes
IsLine-value shapes values nodes typed line =
    record { some = line.some; typed = λ k within. HasShape-value shapes values (shapes_of nodes) k (shape_at (shapes_of nodes) k) (op_at nodes k) typed (line.typed k within) }

pub IsSource-value : (shapes : List Shape) (values : List ℕ) (sink : Shape) (nodes : List Node) → AreTyped shapes values → IsSource (HasType shapes) sink nodes → IsSource (HasValue values) sink nodes
IsSource-value shapes values sink nodes typed source = record { line = IsLine-value shapes values nodes typed source.line; kind = source.kind; width = source.width }

-- the shape of the in-signal at a place
pub shape_at-in_shapes : (circuit : FlatCircuit) (place : ℕ) → place < length circuit.ins → shape_at (in_shapes circuit) place ≡ shape_at (signal_shapes circuit) (value_at circuit.ins place)
shape_at-in_shapes circuit place within = get_or-map (shape_at (signal_shapes circuit)) circuit.ins place 0 (uint 0) within

-- ---- the readers of memories

-- signal s is the data of reader r of memory m
pub record HasReader (circuit : FlatCircuit) (m r s : ℕ) : Type 0 where
  pub memory : Memory
  pub reader : Reader
  pub within : m < length circuit.memories
  pub found : slice_index_or circuit.memories m memory ≡ memory
  pub inside : r < length memory.readers
  pub fields : IsReader (HasType (signal_shapes circuit)) (shape memory.word) memory.depth reader
  pub sink : shape_at (signal_shapes circuit) s ≡ shape memory.word
  pub driver : driver_at circuit s ≡ reader_driver memory.latency m r reader

-- the place of a memory that has a reader is in the list
pub within-readers : (memories : List Memory) (m r : ℕ) → r < length (slice_index_or (map (λ (k : Memory). k.readers) memories) m []) → m < length memories
within-readers [] zero r lt = absurd (omega arith)
within-readers [] (suc m) r lt = absurd (omega arith)
within-readers (memory ∷ memories) zero r lt = omega arith
within-readers (memory ∷ memories) (suc m) r lt = let before = within-readers memories m r lt in omega arith

pub has-reader : (circuit : FlatCircuit) (m r s : ℕ) → IsWellFormed circuit → IsDataOf circuit m r s → HasReader circuit m r s
has-reader circuit m r s formed of =
    let within = within-readers circuit.memories m r of.0 in
    let some = some-item circuit.memories m within in
    let memory = get_or circuit.memories m some in
    let found : get_or circuit.memories m memory ≡ memory = get_or_default circuit.memories m memory some within in
    let readers : readers_at circuit m ≡ memory.readers = get_or-map (λ (k : Memory). k.readers) circuit.memories m some [] within in
    let latency : latency_at circuit m ≡ memory.latency = get_or-map (λ (k : Memory). k.latency) circuit.memories m some Zero within in
    let reader = reader_at (readers_at circuit m) r in
    let inside : r < length memory.readers = subst (λ (l : List Reader). r < length l) readers of.0 in
    let fields : IsReader (HasType (signal_shapes circuit)) (shape memory.word) memory.depth reader =
    subst (λ (l : List Reader). IsReader (HasType (signal_shapes circuit)) (shape memory.word) memory.depth (reader_at l r)) (sym readers) ((formed.memories m some within).readers r _ inside) in
    record {
      memory = memory;
      reader = reader;
      within = within;
      found = found;
      inside = inside;
      fields = fields;
      sink = ap (shape_at (signal_shapes circuit)) (sym of.1) ∙ fields.output.1;
      driver = ap (driver_at circuit) (sym of.1) ∙ formed.reads m within r of.0 ∙ ap (λ (l : Latency). reader_driver l m r reader) latency;
    }

-- a read of latency 0 names the address and the enable of its reader
pub word-names : (latency : Latency) (m r : ℕ) (reader : Reader) (addr en : ℕ) → reader_driver latency m r reader ≡ MemoryWord m r addr en → (reader.addr ≡ addr) × (reader.en ≡ en)
word-names Zero m r reader addr en is = (cc, cc)
word-names (Late under) m r reader addr en is = absurd (cc)

-- a late memory has a read register for each reader
read_count-late : (latency : Latency) (m r : ℕ) (reader : Reader) (readers : List Reader) → reader_driver latency m r reader ≡ ReadRegister m r → read_count latency readers ≡ length readers
read_count-late Zero m r reader readers is = absurd (cc)
read_count-late (Late under) m r reader readers is = refl

-- what a reader finds has the word's type
pub read_word-fits : (word : Shape) (words : List ℕ) (addr en : ℕ) → ((a : ℕ) → Fits word (value_at words a)) → Fits word (read_word words addr en)
read_word-fits word words addr en fits = by (en == 1)
  where
    by : (b : Bool) → Fits word (if b then value_at words addr else 0)
    by true = fits addr
    by false = pow_pos word.width

-- the drivers of a well-formed circuit can be evaluated on typed values
pub HasSource-from : (circuit : FlatCircuit) (state : State) (inputs signals : List ℕ) (s : ℕ) (driver : Driver) → IsWellFormed circuit → IsState circuit state → IsInputs circuit inputs → AreTyped (signal_shapes circuit) signals → driver_at circuit s ≡ driver → MayDrive circuit s driver → HasSource state inputs signals (shape_at (signal_shapes circuit) s) driver
HasSource-from circuit state inputs signals s (Input place) formed st ins typed is may =
    let known : place < length (in_shapes circuit) = omega (arith, may.0, length-map circuit.ins (shape_at (signal_shapes circuit))) in
    (omega (arith, known, ins.count), subst (λ x. Fits x (value_at inputs place)) (shape_at-in_shapes circuit place may.0 ∙ ap (shape_at (signal_shapes circuit)) may.1) (ins.fits place known))
HasSource-from circuit state inputs signals s (Held register) formed st ins typed is may =
    let known : register < length (register_shapes circuit) = omega (arith, may.0, length-map circuit.registers (λ register. shape register.ty)) in
    (omega (arith, known, st.typed.count), subst (λ x. Fits x (value_at state.registers register)) may.1 (st.typed.fits register known))
HasSource-from circuit state inputs signals s (MemoryWord m r addr en) formed st ins typed is may =
    let has = has-reader circuit m r s formed may in
    let bank = st.held.each m has.memory has.within in
    let at : reader_driver has.memory.latency m r has.reader ≡ MemoryWord m r addr en = sym has.driver ∙ is in
    let names = word-names has.memory.latency m r has.reader addr en at in
    let address = has.fields.address.0 in
    let enable = has.fields.enable.0 in (
      omega (arith, has.within, st.held.count),
      subst (λ a. a < length signals) names.0 (omega (arith, address, typed.count)),
      subst (λ e. e < length signals) names.1 (omega (arith, enable, typed.count)),
      λ a. subst (λ x. Fits x (value_at (bank_at state.banks m).words a)) (sym has.sink) (subst (λ k. Fits (shape k.word) (value_at (bank_at state.banks m).words a)) has.found (bank.words.fits a)),
    )
HasSource-from circuit state inputs signals s (ReadRegister m r) formed st ins typed is may =
    let has = has-reader circuit m r s formed may in
    let bank = st.held.each m has.memory has.within in
    let at : reader_driver has.memory.latency m r has.reader ≡ ReadRegister m r = sym has.driver ∙ is in
    let late : read_count has.memory.latency has.memory.readers ≡ length has.memory.readers = read_count-late has.memory.latency m r has.reader has.memory.readers at in
    let count : length (bank_at state.banks m).reads ≡ length has.memory.readers = subst (λ k. length (bank_at state.banks m).reads ≡ read_count k.latency k.readers) has.found bank.reads.count ∙ late in
    (omega (arith, has.within, st.held.count), omega (arith, has.inside, count), subst (λ x. Fits x (value_at (bank_at state.banks m).reads r)) (sym has.sink) (subst (λ k. Fits (shape k.word) (value_at (bank_at state.banks m).reads r)) has.found (bank.reads.fits r)))
HasSource-from circuit state inputs signals s (Computed line) formed st ins typed is may = IsSource-value (signal_shapes circuit) signals (shape_at (signal_shapes circuit) s) line typed may

-- the value of a driver that can be evaluated has the signal's type
pub driver_value-fits : (state : State) (inputs signals : List ℕ) (sink : Shape) (driver : Driver) → HasSource state inputs signals sink driver → Fits sink (driver_value state inputs signals sink driver)
driver_value-fits state inputs signals sink (Input place) has = has.1
driver_value-fits state inputs signals sink (Held register) has = has.1
driver_value-fits state inputs signals sink (MemoryWord memory reader addr en) has = read_word-fits sink (bank_at state.banks memory).words (value_at signals addr) (value_at signals en) has.3
driver_value-fits state inputs signals sink (ReadRegister memory reader) has = has.2
driver_value-fits state inputs signals sink (Computed line) has = pattern_of-lt sink.width _

-- zeros are typed values for any shapes
pub AreTyped-zeros : (shapes : List Shape) (n : ℕ) → n ≡ length shapes → AreTyped shapes (replicate n 0)
AreTyped-zeros shapes n count =
    record {
      count = length-replicate n 0 ∙ count;
      fits = λ i known. subst (Fits (shape_at shapes i)) (sym (get_or-replicate n i 0 0 (omega (arith, known, count)))) (pow_pos (shape_at shapes i).width);
    }

-- what the definitions say of a signal that was read from the list
pub record IsSignal (circuit : FlatCircuit) (s : ℕ) (signal : Signal) : Type 0 where
  pub shape_is : shape_at (signal_shapes circuit) s ≡ shape signal.ty
  pub driver_is : driver_at circuit s ≡ signal.driver

pub IsSignal-read : (circuit : FlatCircuit) (s : ℕ) (signal : Signal) → s < length circuit.signals → signal ≡ get_or circuit.signals s signal → IsSignal circuit s signal
IsSignal-read circuit s signal known read =
    record {
      shape_is = get_or-map (λ (x : Signal). shape x.ty) circuit.signals s signal (uint 0) known ∙ ap (λ (x : Signal). shape x.ty) (sym read);
      driver_is = get_or-map (λ (x : Signal). x.driver) circuit.signals s signal (Input 0) known ∙ ap (λ (x : Signal). x.driver) (sym read);
    }

pub HasSource-signal : (circuit : FlatCircuit) (state : State) (inputs signals : List ℕ) (s : ℕ) (signal : Signal) → IsWellFormed circuit → IsState circuit state → IsInputs circuit inputs → AreTyped (signal_shapes circuit) signals → s < length circuit.signals → IsSignal circuit s signal → HasSource state inputs signals (shape signal.ty) signal.driver
HasSource-signal circuit state inputs signals s signal formed st ins typed known is =
    subst (λ sink. HasSource state inputs signals sink signal.driver) is.shape_is (subst (HasSource state inputs signals (shape_at (signal_shapes circuit) s)) is.driver_is (HasSource-from circuit state inputs signals s (driver_at circuit s) formed st ins typed refl (formed.drivers s known)))
