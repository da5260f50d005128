-- The rows of a circuit's table are known, and differ.
use Rattle.std.proofs.Common.{◌≡◌, ◌≢◌, ℕ, ◌<◌, ◌≤◌, ◌^◌, List, [], ◌∷◌, ◌++◌, length, map, get_or, Option, Some, None, Bool, true, false, cond, codes, refl, sym, ap, ap₂, ◌∙◌, subst, arith, inl, inr}
use Rattle.std.specs.Prelude.{All, AllPairs, Contains, ◌==◌}
use Rattle.std.proofs.lemmas.Option.{none-some, same_Some}
use Rattle.std.proofs.lemmas.Bool.Decides.{nat_tests}
use Rattle.std.specs.List.{range_with_len}
use Rattle.std.proofs.lemmas.List.{get_or-map, length-map}
use Rattle.std.proofs.lemmas.List.Concat.{flat_map_single}
use Rattle.std.proofs.lemmas.List.Elements.{All-cons, All-nil, All-get_or, All-head, All-tail}
use Rattle.gg_bits.specs.Shape.{Shape, shape}
use Rattle.gg_flat.specs.declared.piece.Driver.{Driver}
use Rattle.gg_flat.specs.declared.piece.Driver.TheVariants.{Input, Held, MemoryWord, ReadRegister, Computed}
use Rattle.gg_flat.specs.declared.memory.Latency.{Latency}
use Rattle.gg_flat.specs.declared.memory.Memory.{Memory}
use Rattle.gg_flat.specs.declared.memory.Reader.{Reader}
use Rattle.gg_flat.specs.declared.memory.Latency.TheVariants.{Zero, One}
use Rattle.gg_flat.specs.Circuit.{FlatCircuit, signal_shapes, driver_at, readers_at, latency_at, reader_at}
use Rattle.gg_flat.specs.Line.{HasType, shape_at, value_at}
use Rattle.gg_flat.specs.Memory.{read_count}
use Rattle.gg_flat_tree.specs.Tree.{InstanceTree, path_at, memory_at}
use Rattle.gg_flat.specs.WellFormed.{IsDataOf, IsReader, IsWellFormed, MayDrive, reader_driver}
use Rattle.gg_flat.proofs.TypedLemmas.{has-reader, within-readers}
use Rattle.gg_flat.proofs.ListLemmas.{further, once-apart, some-item}
use Rattle.gg_snap.specs.declared.text.row.At.{At}
use Rattle.gg_snap.specs.declared.text.row.At.TheVariants.{Register, Read, Words}
use Rattle.gg_snap.specs.declared.text.row.Kind.{Kind}
use Rattle.gg_snap.specs.declared.text.row.Kind.TheVariants as kind
use Rattle.gg_snap.specs.declared.text.row.Row.{Row}
use Rattle.gg_snap.specs.text.Known.{AllDiffer, AreKnown, CanSave, Differ, HasNo, IsAt, IsElsewhere, IsKnown, IsPlain}
use Rattle.gg_snap.specs.text.Table.{after, by_path, channel_of, memory_row, memory_rows, pipe_named, pipe_row, pipe_rows, read_row, read_rows, register_named, register_row, register_rows, rows_of}
use Rattle.gg_snap.proofs.TextLemmas.SortLemmas.{AreDistinct, Each}
use Rattle.gg_snap.proofs.TextLemmas.RowLemmas.{IsNumbered, all-each, by_path-differ, by_path-each, differ-append, distinct-of, each-append, each-map, numbered, numbered-differ}

-- what is known of a row, but for how many values it has
pub record IsSized (circuit : FlatCircuit) (row : Row) : Type 0 where
  pub some : 0 < row.width
  pub narrow : row.width ≤ 128
  pub plain : IsPlain row.path
  pub at : IsAt circuit row.width row.count row.at

-- the row is that of a register that signal s holds
pub record IsHeldRow (circuit : FlatCircuit) (k : Kind) (s : ℕ) (row : Row) : Type 0 where
  pub kind : row.kind ≡ k
  pub register : ℕ
  pub at : row.at ≡ Register register
  pub holds : driver_at circuit s ≡ Held register
  pub count : row.count ≡ 1
  pub width : row.width ≡ (shape_at (signal_shapes circuit) s).width

pub record IsRegisterRow (circuit : FlatCircuit) (s : ℕ) (row : Row) : Type 0 where
  pub held : IsHeldRow circuit kind.Register s row
  pub path : row.path ≡ path_at circuit.paths s
  pub own : channel_of (path_at circuit.paths s) ≡ None

pub record IsPipeRow (circuit : FlatCircuit) (s : ℕ) (row : Row) : Type 0 where
  pub held : IsHeldRow circuit kind.Pipe s row
  pub own : channel_of (path_at circuit.paths s) ≡ Some row.path

register-by : (circuit : FlatCircuit) (s : ℕ) (d : Driver) (c : Option (List ℕ)) → driver_at circuit s ≡ d → channel_of (path_at circuit.paths s) ≡ c → Each (IsRegisterRow circuit s) (register_row (path_at circuit.paths s) (shape_at (signal_shapes circuit) s).width d)
register-by circuit s (Input place) c e own = tt
register-by circuit s (Held r) None e own =
    subst (λ o. Each (IsRegisterRow circuit s) (register_named (path_at circuit.paths s) (shape_at (signal_shapes circuit) s).width r o)) (sym own)
    (record { held = record { kind = refl; register = r; at = refl; holds = e; count = refl; width = refl }; path = refl; own = own }, tt)
register-by circuit s (Held r) (Some channel) e own =
    subst (λ o. Each (IsRegisterRow circuit s) (register_named (path_at circuit.paths s) (shape_at (signal_shapes circuit) s).width r o)) (sym own) tt
register-by circuit s (MemoryWord memory reader addr en) c e own = tt
register-by circuit s (ReadRegister memory reader) c e own = tt
register-by circuit s (Computed line) c e own = tt

pipe-by : (circuit : FlatCircuit) (s : ℕ) (d : Driver) (c : Option (List ℕ)) → driver_at circuit s ≡ d → channel_of (path_at circuit.paths s) ≡ c → Each (IsPipeRow circuit s) (pipe_row (path_at circuit.paths s) (shape_at (signal_shapes circuit) s).width d)
pipe-by circuit s (Input place) c e own = tt
pipe-by circuit s (Held r) None e own =
    subst (λ o. Each (IsPipeRow circuit s) (pipe_named (shape_at (signal_shapes circuit) s).width r o)) (sym own) tt
pipe-by circuit s (Held r) (Some channel) e own =
    subst (λ o. Each (IsPipeRow circuit s) (pipe_named (shape_at (signal_shapes circuit) s).width r o)) (sym own)
    (record { held = record { kind = refl; register = r; at = refl; holds = e; count = refl; width = refl }; own = own }, tt)
pipe-by circuit s (MemoryWord memory reader addr en) c e own = tt
pipe-by circuit s (ReadRegister memory reader) c e own = tt
pipe-by circuit s (Computed line) c e own = tt

one-differs : (path : List ℕ) (width r : ℕ) (c : Option (List ℕ)) → AllDiffer (register_named path width r c)
one-differs path width r None = (tt, tt)
one-differs path width r (Some channel) = tt

register-one : (path : List ℕ) (width : ℕ) (d : Driver) → AllDiffer (register_row path width d)
register-one path width (Input place) = tt
register-one path width (Held r) = one-differs path width r (channel_of path)
register-one path width (MemoryWord memory reader addr en) = tt
register-one path width (ReadRegister memory reader) = tt
register-one path width (Computed line) = tt

pipe-differs : (width r : ℕ) (c : Option (List ℕ)) → AllDiffer (pipe_named width r c)
pipe-differs width r None = tt
pipe-differs width r (Some channel) = (tt, tt)

pipe-one : (path : List ℕ) (width : ℕ) (d : Driver) → AllDiffer (pipe_row path width d)
pipe-one path width (Input place) = tt
pipe-one path width (Held r) = pipe-differs width r (channel_of path)
pipe-one path width (MemoryWord memory reader addr en) = tt
pipe-one path width (ReadRegister memory reader) = tt
pipe-one path width (Computed line) = tt

-- what follows the same bytes in two texts is one only if the texts are
after-once : (front one other name : List ℕ) → after front one ≡ Some name → after front other ≡ Some name → one ≡ other
after-once [] one other name a b = same_Some _ _ (a ∙ sym b)
after-once (x ∷ front) [] other name a b = absurd (none-some name a)
after-once (x ∷ front) (c ∷ one) [] name a b = absurd (none-some name b)
after-once (x ∷ front) (c ∷ one) (d ∷ other) name a b = by (λ f g. after-once front one other name f g) (x == c) (x == d) refl refl a b
  where
    by : (after front one ≡ Some name → after front other ≡ Some name → one ≡ other) → (p q : Bool) → (x == c) ≡ p → (x == d) ≡ q → cond p (after front one) None ≡ Some name → cond q (after front other) None ≡ Some name → c ∷ one ≡ d ∷ other
    by later true true e f a b = ap₂ (λ h t. h ∷ t) (let ec : x ≡ c = grind (arith, nat_tests) in let ed : x ≡ d = grind (arith, nat_tests) in sym ec ∙ ed) (later a b)
    by later true false e f a b = absurd (none-some name b)
    by later false q e f a b = absurd (none-some name a)

-- what follows the front of a text is in it
pub contains-behind : (front text rest : List ℕ) (b : ℕ) → after front text ≡ Some rest → Contains rest b → Contains text b
contains-behind [] text rest b e c = subst (λ t. Contains t b) (sym (same_Some text rest e)) c
contains-behind (x ∷ front) [] rest b e c = absurd (none-some rest e)
contains-behind (x ∷ front) (y ∷ text) rest b e c = by (λ f. contains-behind front text rest b f c) (x == y) e
  where
    by : (after front text ≡ Some rest → Contains text b) → (t : Bool) → cond t (after front text) None ≡ Some rest → Contains (y ∷ text) b
    by later true e = further y text b (later e)
    by later false e = absurd (none-some rest e)

-- the data of a reader is a signal
pub word-known : (circuit : FlatCircuit) (m r : ℕ) → IsWellFormed circuit → r < length (readers_at circuit m) → (reader_at (readers_at circuit m) r).word < length circuit.signals
word-known circuit m r formed lt =
    let within = within-readers circuit.memories m r lt in
    let some = some-item circuit.memories m within in
    let memory = get_or circuit.memories m some in
    let readers : readers_at circuit m ≡ memory.readers = get_or-map (λ (k : Memory). k.readers) circuit.memories m some [] within in
    let inside : r < length memory.readers = subst (λ (l : List Reader). r < length l) readers lt in
    let fields : IsReader (HasType (signal_shapes circuit)) (shape memory.word) memory.depth (reader_at (readers_at circuit m) r) =
    subst (λ (l : List Reader). IsReader (HasType (signal_shapes circuit)) (shape memory.word) memory.depth (reader_at l r)) (sym readers) ((formed.memories m some within).readers r _ inside) in
    omega (arith, fields.output.0, length-map circuit.signals (λ signal. shape signal.ty))

module _ (circuit : FlatCircuit) (tree : InstanceTree) (formed : IsWellFormed circuit) (can : CanSave circuit tree) where
  -- ---- registers and pipes

  pub registers-are : Each (IsNumbered (IsRegisterRow circuit) 0 (length circuit.signals)) (register_rows circuit)
  registers-are =
      numbered (IsRegisterRow circuit) (λ s. register_row (path_at circuit.paths s) (shape_at (signal_shapes circuit) s).width (driver_at circuit s)) 0 (length circuit.signals) (length circuit.signals) (omega arith)
      (λ s lt. register-by circuit s (driver_at circuit s) (channel_of (path_at circuit.paths s)) refl refl)

  pub pipes-are : Each (IsNumbered (IsPipeRow circuit) 0 (length circuit.signals)) (pipe_rows circuit)
  pipes-are =
      numbered (IsPipeRow circuit) (λ s. pipe_row (path_at circuit.paths s) (shape_at (signal_shapes circuit) s).width (driver_at circuit s)) 0 (length circuit.signals) (length circuit.signals) (omega arith)
      (λ s lt. pipe-by circuit s (driver_at circuit s) (channel_of (path_at circuit.paths s)) refl refl)

  -- two signals that hold registers hold two
  held-apart : (k l : Kind) (s t : ℕ) (r q : Row) → s < t → t < length circuit.signals → (one : IsHeldRow circuit k s r) → (other : IsHeldRow circuit l t q) → IsElsewhere r.at q.at
  held-apart k l s t r q less lt one other =
      subst (λ a. IsElsewhere a q.at) (sym one.at) (subst (IsElsewhere (Register one.register)) (sym other.at)
      (λ e. let same = can.held s t one.register (omega (arith, less, lt)) lt one.holds (other.holds ∙ ap Held (sym e)) in omega (arith, less, same)))

  paths-apart : (s t : ℕ) → s < length circuit.signals → t < length circuit.signals → path_at circuit.paths s ≡ path_at circuit.paths t → s ≡ t
  paths-apart s t low high e = once-apart circuit.paths [] formed.distinct s t (omega (arith, low, formed.named)) (omega (arith, high, formed.named)) e

  pub registers-differ : AllDiffer (register_rows circuit)
  registers-differ =
      numbered-differ (IsRegisterRow circuit) (λ s. register_row (path_at circuit.paths s) (shape_at (signal_shapes circuit) s).width (driver_at circuit s)) 0 (length circuit.signals) (length circuit.signals) (omega arith)
      (λ s lt. register-by circuit s (driver_at circuit s) (channel_of (path_at circuit.paths s)) refl refl)
      (λ s lt. register-one (path_at circuit.paths s) (shape_at (signal_shapes circuit) s).width (driver_at circuit s))
      (λ s t r q less lt one other. record {
        named = inr (λ e. let same = paths-apart s t (omega (arith, less, lt)) lt (sym one.path ∙ e ∙ other.path) in omega (arith, less, same));
        apart = held-apart kind.Register kind.Register s t r q less lt one.held other.held;
      })

  pub pipes-differ : AllDiffer (pipe_rows circuit)
  pipes-differ =
      numbered-differ (IsPipeRow circuit) (λ s. pipe_row (path_at circuit.paths s) (shape_at (signal_shapes circuit) s).width (driver_at circuit s)) 0 (length circuit.signals) (length circuit.signals) (omega arith)
      (λ s lt. pipe-by circuit s (driver_at circuit s) (channel_of (path_at circuit.paths s)) refl refl)
      (λ s lt. pipe-one (path_at circuit.paths s) (shape_at (signal_shapes circuit) s).width (driver_at circuit s))
      (λ s t r q less lt one other. record {
        named = inr (λ e. let same = paths-apart s t (omega (arith, less, lt)) lt (after-once (codes "pipe:") (path_at circuit.paths s) (path_at circuit.paths t) r.path one.own (other.own ∙ ap Some (sym e))) in omega (arith, less, same));
        apart = held-apart kind.Pipe kind.Pipe s t r q less lt one.held other.held;
      })

  -- ---- read registers

  pub record IsReadRow (s : ℕ) (row : Row) : Type 0 where
    pub kind : row.kind ≡ kind.Read
    pub memory : ℕ
    pub reader : ℕ
    pub at : row.at ≡ Read memory reader
    pub holds : driver_at circuit s ≡ ReadRegister memory reader
    pub count : row.count ≡ 1
    pub path : row.path ≡ path_at circuit.paths s
    pub width : row.width ≡ (shape_at (signal_shapes circuit) s).width

  reads-by : (s : ℕ) (d : Driver) → driver_at circuit s ≡ d → Each (IsReadRow s) (read_row (path_at circuit.paths s) (shape_at (signal_shapes circuit) s).width d)
  reads-by s (Input place) e = tt
  reads-by s (Held r) e = tt
  reads-by s (MemoryWord memory reader addr en) e = tt
  reads-by s (ReadRegister m r) e = (record { kind = refl; memory = m; reader = r; at = refl; holds = e; count = refl; path = refl; width = refl }, tt)
  reads-by s (Computed line) e = tt

  read-one : (path : List ℕ) (width : ℕ) (d : Driver) → AllDiffer (read_row path width d)
  read-one path width (Input place) = tt
  read-one path width (Held r) = tt
  read-one path width (MemoryWord memory reader addr en) = tt
  read-one path width (ReadRegister m r) = (tt, tt)
  read-one path width (Computed line) = tt

  data-of : (s m r : ℕ) → s < length circuit.signals → driver_at circuit s ≡ ReadRegister m r → IsDataOf circuit m r s
  data-of s m r lt e = subst (MayDrive circuit s) e (formed.drivers s lt)

  pub reads-are : Each (IsNumbered IsReadRow 0 (length circuit.signals)) (read_rows circuit)
  reads-are =
      numbered IsReadRow (λ s. read_row (path_at circuit.paths s) (shape_at (signal_shapes circuit) s).width (driver_at circuit s)) 0 (length circuit.signals) (length circuit.signals) (omega arith)
      (λ s lt. reads-by s (driver_at circuit s) refl)

  reads-apart : (s t : ℕ) (r q : Row) → s < t → t < length circuit.signals → (one : IsReadRow s r) → (other : IsReadRow t q) → ¬ ((one.memory ≡ other.memory) × (one.reader ≡ other.reader))
  reads-apart s t r q less lt one other same =
      let own = data-of s one.memory one.reader (omega (arith, less, lt)) one.holds in
      let its = data-of t other.memory other.reader lt other.holds in
      let word : (reader_at (readers_at circuit one.memory) one.reader).word ≡ (reader_at (readers_at circuit other.memory) other.reader).word = ap₂ (λ m k. (reader_at (readers_at circuit m) k).word) same.0 same.1 in
      let e : s ≡ t = sym own.1 ∙ word ∙ its.1 in
      omega (arith, less, e)

  pub reads-differ : AllDiffer (read_rows circuit)
  reads-differ =
      numbered-differ IsReadRow (λ s. read_row (path_at circuit.paths s) (shape_at (signal_shapes circuit) s).width (driver_at circuit s)) 0 (length circuit.signals) (length circuit.signals) (omega arith)
      (λ s lt. reads-by s (driver_at circuit s) refl)
      (λ s lt. read-one (path_at circuit.paths s) (shape_at (signal_shapes circuit) s).width (driver_at circuit s))
      (λ s t r q less lt one other. record {
        named = inr (λ e. let same = paths-apart s t (omega (arith, less, lt)) lt (sym one.path ∙ e ∙ other.path) in omega (arith, less, same));
        apart = subst (λ a. IsElsewhere a q.at) (sym one.at) (subst (IsElsewhere (Read one.memory one.reader)) (sym other.at) (reads-apart s t r q less lt one other));
      })

  -- ---- memories

  pub record IsMemoryRow (place : ℕ) (row : Row) : Type 0 where
    pub kind : row.kind ≡ kind.Memory
    pub known : place < length tree.memories
    pub at : row.at ≡ Words (memory_at tree place).memory
    pub path : row.path ≡ path_at tree.memory_paths place
    pub count : row.count ≡ value_at (map (λ memory. memory.depth) circuit.memories) (memory_at tree place).memory
    pub width : row.width ≡ (shape_at (map (λ memory. shape memory.word) circuit.memories) (memory_at tree place).memory).width

  module _ (paths : length tree.memory_paths ≡ length tree.memories) (apart : AllPairs (λ a b. a ≢ b) tree.memory_paths) where
    memories-all : Each (IsNumbered IsMemoryRow 0 (length tree.memories)) (memory_rows circuit tree)
    memories-all =
        subst (Each (IsNumbered IsMemoryRow 0 (length tree.memories))) (flat_map_single (λ place. memory_row circuit (path_at tree.memory_paths place) (memory_at tree place).memory) (range_with_len 0 (length tree.memories)))
        (numbered IsMemoryRow (λ place. memory_row circuit (path_at tree.memory_paths place) (memory_at tree place).memory ∷ []) 0 (length tree.memories) (length tree.memories) (omega arith)
        (λ place lt. (record { kind = refl; known = lt; at = refl; path = refl; count = refl; width = refl }, tt)))

    memories-differ : AllDiffer (memory_rows circuit tree)
    memories-differ =
        subst AllDiffer (flat_map_single (λ place. memory_row circuit (path_at tree.memory_paths place) (memory_at tree place).memory) (range_with_len 0 (length tree.memories)))
        (numbered-differ IsMemoryRow (λ place. memory_row circuit (path_at tree.memory_paths place) (memory_at tree place).memory ∷ []) 0 (length tree.memories) (length tree.memories) (omega arith)
        (λ place lt. (record { kind = refl; known = lt; at = refl; path = refl; count = refl; width = refl }, tt)) (λ place lt. (tt, tt))
        (λ s t r q less lt one other. record {
          named = inr (λ e. let same = once-apart tree.memory_paths [] apart s t (omega (arith, less, lt, paths)) (omega (arith, lt, paths)) (sym one.path ∙ e ∙ other.path) in omega (arith, less, same));
          apart = subst (λ a. IsElsewhere a q.at) (sym one.at) (subst (IsElsewhere (Words (memory_at tree s).memory)) (sym other.at) (can.once s t _ less lt));
        }))

    -- ---- all together

    cross : (P Q : Row → Type 0) (xs ys : List Row) → Each P xs → Each Q ys → ((x y : Row) → P x → Q y → Differ x y) → Each (λ x. Each (Differ x) ys) xs
    cross P Q xs ys a b to = each-map P (λ x. Each (Differ x) ys) xs (λ x p. each-map Q (Differ x) ys (λ y q. to x y p q) b) a

    elsewhere : (x y : Row) (at other : At) → x.at ≡ at → y.at ≡ other → IsElsewhere at other → IsElsewhere x.at y.at
    elsewhere x y at other a b apart = subst (λ e. IsElsewhere e y.at) (sym a) (subst (IsElsewhere at) (sym b) apart)

    abbrev all_registers : List Row
    all_registers = by_path (register_rows circuit)

    abbrev all_reads : List Row
    all_reads = by_path (read_rows circuit)

    abbrev all_pipes : List Row
    all_pipes = by_path (pipe_rows circuit)

    abbrev all_memories : List Row
    all_memories = by_path (memory_rows circuit tree)

    registers-each : Each (IsNumbered (IsRegisterRow circuit) 0 (length circuit.signals)) all_registers
    registers-each = by_path-each (IsNumbered (IsRegisterRow circuit) 0 (length circuit.signals)) (register_rows circuit) registers-are

    reads-each : Each (IsNumbered IsReadRow 0 (length circuit.signals)) all_reads
    reads-each = by_path-each (IsNumbered IsReadRow 0 (length circuit.signals)) (read_rows circuit) reads-are

    pipes-each : Each (IsNumbered (IsPipeRow circuit) 0 (length circuit.signals)) all_pipes
    pipes-each = by_path-each (IsNumbered (IsPipeRow circuit) 0 (length circuit.signals)) (pipe_rows circuit) pipes-are

    memories-each : Each (IsNumbered IsMemoryRow 0 (length tree.memories)) all_memories
    memories-each = by_path-each (IsNumbered IsMemoryRow 0 (length tree.memories)) (memory_rows circuit tree) memories-all

    kinds : (x y : Row) (k l : Kind) → x.kind ≡ k → y.kind ≡ l → (k ≡ l → ⊥) → x.kind ≡ y.kind → ⊥
    kinds x y k l a b ne e = ne (sym a ∙ e ∙ b)

    register-read : (x y : Row) → IsNumbered (IsRegisterRow circuit) 0 (length circuit.signals) x → IsNumbered IsReadRow 0 (length circuit.signals) y → Differ x y
    register-read x y a b = record { named = inl (kinds x y kind.Register kind.Read a.is.held.kind b.is.kind (λ e. cc)); apart = elsewhere x y (Register a.is.held.register) (Read b.is.memory b.is.reader) a.is.held.at b.is.at tt }

    register-pipe : (x y : Row) → IsNumbered (IsRegisterRow circuit) 0 (length circuit.signals) x → IsNumbered (IsPipeRow circuit) 0 (length circuit.signals) y → Differ x y
    register-pipe x y a b = record {
      named = inl (kinds x y kind.Register kind.Pipe a.is.held.kind b.is.held.kind (λ e. cc));
      apart = elsewhere x y (Register a.is.held.register) (Register b.is.held.register) a.is.held.at b.is.held.at (λ e.
          let same = can.held a.number b.number a.is.held.register a.high b.high a.is.held.holds (b.is.held.holds ∙ ap Held (sym e)) in
          none-some y.path (sym a.is.own ∙ ap (λ s. channel_of (path_at circuit.paths s)) same ∙ b.is.own));
    }

    register-memory : (x y : Row) → IsNumbered (IsRegisterRow circuit) 0 (length circuit.signals) x → IsNumbered IsMemoryRow 0 (length tree.memories) y → Differ x y
    register-memory x y a b = record { named = inl (kinds x y kind.Register kind.Memory a.is.held.kind b.is.kind (λ e. cc)); apart = elsewhere x y (Register a.is.held.register) (Words (memory_at tree b.number).memory) a.is.held.at b.is.at tt }

    read-pipe : (x y : Row) → IsNumbered IsReadRow 0 (length circuit.signals) x → IsNumbered (IsPipeRow circuit) 0 (length circuit.signals) y → Differ x y
    read-pipe x y a b = record { named = inl (kinds x y kind.Read kind.Pipe a.is.kind b.is.held.kind (λ e. cc)); apart = elsewhere x y (Read a.is.memory a.is.reader) (Register b.is.held.register) a.is.at b.is.held.at tt }

    read-memory : (x y : Row) → IsNumbered IsReadRow 0 (length circuit.signals) x → IsNumbered IsMemoryRow 0 (length tree.memories) y → Differ x y
    read-memory x y a b = record { named = inl (kinds x y kind.Read kind.Memory a.is.kind b.is.kind (λ e. cc)); apart = elsewhere x y (Read a.is.memory a.is.reader) (Words (memory_at tree b.number).memory) a.is.at b.is.at tt }

    pipe-memory : (x y : Row) → IsNumbered (IsPipeRow circuit) 0 (length circuit.signals) x → IsNumbered IsMemoryRow 0 (length tree.memories) y → Differ x y
    pipe-memory x y a b = record { named = inl (kinds x y kind.Pipe kind.Memory a.is.held.kind b.is.kind (λ e. cc)); apart = elsewhere x y (Register a.is.held.register) (Words (memory_at tree b.number).memory) a.is.held.at b.is.at tt }

    cross-append : (xs ys zs : List Row) → Each (λ x. Each (Differ x) ys) xs → Each (λ x. Each (Differ x) zs) xs → Each (λ x. Each (Differ x) (ys ++ zs)) xs
    cross-append [] ys zs a b = tt
    cross-append (x ∷ xs) ys zs a b = (each-append (Differ x) ys zs a.0 b.0, cross-append xs ys zs a.1 b.1)

    pub rows-differ : AllDiffer (rows_of circuit tree)
    rows-differ =
        let N = IsNumbered (IsRegisterRow circuit) 0 (length circuit.signals) in
        let R = IsNumbered IsReadRow 0 (length circuit.signals) in
        let P = IsNumbered (IsPipeRow circuit) 0 (length circuit.signals) in
        let M = IsNumbered IsMemoryRow 0 (length tree.memories) in
        differ-append all_registers (all_reads ++ (all_pipes ++ all_memories)) (by_path-differ (register_rows circuit) registers-differ)
        (differ-append all_reads (all_pipes ++ all_memories) (by_path-differ (read_rows circuit) reads-differ)
        (differ-append all_pipes all_memories (by_path-differ (pipe_rows circuit) pipes-differ) (by_path-differ (memory_rows circuit tree) memories-differ)
        (cross P M all_pipes all_memories pipes-each memories-each pipe-memory))
        (cross-append all_reads all_pipes all_memories (cross R P all_reads all_pipes reads-each pipes-each read-pipe) (cross R M all_reads all_memories reads-each memories-each read-memory)))
        (cross-append all_registers all_reads (all_pipes ++ all_memories) (cross N R all_registers all_reads registers-each reads-each register-read)
        (cross-append all_registers all_pipes all_memories (cross N P all_registers all_pipes registers-each pipes-each register-pipe) (cross N M all_registers all_memories registers-each memories-each register-memory)))

    -- ---- each row

    signal-width : (s : ℕ) → s < length circuit.signals → (0 < (shape_at (signal_shapes circuit) s).width) × ((shape_at (signal_shapes circuit) s).width ≤ 128)
    signal-width s lt =
        let some = some-item circuit.signals s lt in
        let is = get_or-map (λ signal. shape signal.ty) circuit.signals s some (record { kind = _; width = 0 }) lt in
        let signal = get_or circuit.signals s some in
        subst (λ (h : Shape). (0 < h.width) × (h.width ≤ 128)) (sym is) (let low = signal.ty.positive in let high = signal.ty.bounded in (omega (arith, low), omega (arith, high)))

    plain-at : (s : ℕ) → s < length circuit.signals → IsPlain (path_at circuit.paths s)
    plain-at s lt = All-get_or IsPlain circuit.paths s [] (omega (arith, lt, formed.named)) can.plain

    no-behind : (s : ℕ) (path : List ℕ) (b : ℕ) → channel_of (path_at circuit.paths s) ≡ Some path → HasNo b (path_at circuit.paths s) → HasNo b path
    no-behind s path b own free c = free (contains-behind (codes "pipe:") (path_at circuit.paths s) path b own c)

    held-at : (k : Kind) (s : ℕ) (row : Row) → s < length circuit.signals → (held : IsHeldRow circuit k s row) → IsAt circuit row.width row.count row.at
    held-at k s row lt held =
        let drive = subst (MayDrive circuit s) held.holds (formed.drivers s lt) in
        subst (IsAt circuit row.width row.count) (sym held.at) (drive.0, held.count, held.width ∙ ap (λ (h : Shape). h.width) (sym drive.1))

    held-sized : (k : Kind) (s : ℕ) (row : Row) → s < length circuit.signals → IsPlain row.path → (held : IsHeldRow circuit k s row) → IsSized circuit row
    held-sized k s row lt plain held =
        let wide = signal-width s lt in
        record { some = subst (λ w. 0 < w) (sym held.width) wide.0; narrow = subst (λ w. w ≤ 128) (sym held.width) wide.1; plain = plain; at = held-at k s row lt held }

    register-sized : (row : Row) → IsNumbered (IsRegisterRow circuit) 0 (length circuit.signals) row → IsSized circuit row
    register-sized row is = held-sized kind.Register is.number row is.high (subst IsPlain (sym is.is.path) (plain-at is.number is.high)) is.is.held

    pipe-sized : (row : Row) → IsNumbered (IsPipeRow circuit) 0 (length circuit.signals) row → IsSized circuit row
    pipe-sized row is = held-sized kind.Pipe is.number row is.high (no-behind is.number row.path 32 is.is.own (plain-at is.number is.high).0, no-behind is.number row.path 10 is.is.own (plain-at is.number is.high).1) is.is.held

    late : (s m r : ℕ) → s < length circuit.signals → driver_at circuit s ≡ ReadRegister m r → (latency : Latency) → latency_at circuit m ≡ latency → read_count latency (readers_at circuit m) ≡ length (readers_at circuit m)
    late s m r lt e Zero l =
        let own = data-of s m r lt e in
        let has = has-reader circuit m r s formed own in
        let driver = formed.reads m has.within r own.0 in
        let here : driver_at circuit (reader_at (readers_at circuit m) r).word ≡ ReadRegister m r = ap (driver_at circuit) own.1 ∙ e in
        let word : reader_driver (latency_at circuit m) m r (reader_at (readers_at circuit m) r) ≡ MemoryWord m r (reader_at (readers_at circuit m) r).addr (reader_at (readers_at circuit m) r).en = ap (λ k. reader_driver k m r (reader_at (readers_at circuit m) r)) l in
        let no_such : ReadRegister m r ≡ MemoryWord m r (reader_at (readers_at circuit m) r).addr (reader_at (readers_at circuit m) r).en = sym here ∙ driver ∙ word in
        absurd cc
    late s m r lt e (One under) l = refl

    read-sized : (row : Row) → IsNumbered IsReadRow 0 (length circuit.signals) row → IsSized circuit row
    read-sized row is =
        let s = is.number in
        let m = is.is.memory in
        let r = is.is.reader in
        let own = data-of s m r is.high is.is.holds in
        let wide = signal-width s is.high in
        let has = has-reader circuit m r s formed own in
        let counts = late s m r is.high is.is.holds (latency_at circuit m) refl in
        let word : shape_at (map (λ memory. shape memory.word) circuit.memories) m ≡ shape has.memory.word =
        get_or-map (λ memory. shape memory.word) circuit.memories m has.memory (record { kind = _; width = 0 }) has.within ∙ ap (λ memory. shape memory.word) has.found in
        record {
          some = subst (λ w. 0 < w) (sym is.is.width) wide.0;
          narrow = subst (λ w. w ≤ 128) (sym is.is.width) wide.1;
          plain = subst IsPlain (sym is.is.path) (plain-at s is.high);
          at = subst (IsAt circuit row.width row.count) (sym is.is.at) (has.within, subst (λ n. r < n) (sym counts) own.0, is.is.count, is.is.width ∙ ap (λ (h : Shape). h.width) (has.sink ∙ sym word));
        }

    memory-sized : (row : Row) → IsNumbered IsMemoryRow 0 (length tree.memories) row → IsSized circuit row
    memory-sized row is =
        let m = (memory_at tree is.number).memory in
        let lt = can.memories is.number is.high in
        let some = some-item circuit.memories m lt in
        let memory = get_or circuit.memories m some in
        let word : shape_at (map (λ memory. shape memory.word) circuit.memories) m ≡ shape memory.word = get_or-map (λ memory. shape memory.word) circuit.memories m some (record { kind = _; width = 0 }) lt in
        let width : row.width ≡ memory.word.width = is.is.width ∙ ap (λ (h : Shape). h.width) word in
        record {
          some = let low = memory.word.positive in omega (arith, low, width);
          narrow = let high = memory.word.bounded in omega (arith, high, width);
          plain = subst IsPlain (sym is.is.path) (All-get_or IsPlain tree.memory_paths is.number [] (omega (arith, is.high, paths)) can.plain_memories);
          at = subst (IsAt circuit row.width row.count) (sym is.is.at) (lt, is.is.count, is.is.width);
        }

    rows-sized : Each (IsSized circuit) (rows_of circuit tree)
    rows-sized =
        each-append (IsSized circuit) all_registers (all_reads ++ (all_pipes ++ all_memories)) (each-map _ (IsSized circuit) all_registers register-sized registers-each)
        (each-append (IsSized circuit) all_reads (all_pipes ++ all_memories) (each-map _ (IsSized circuit) all_reads read-sized reads-each)
        (each-append (IsSized circuit) all_pipes all_memories (each-map _ (IsSized circuit) all_pipes pipe-sized pipes-each) (each-map _ (IsSized circuit) all_memories memory-sized memories-each)))

    all-known : (rows : List Row) → Each (IsSized circuit) rows → All (λ row. row.count < 2 ^ 32) rows → All (IsKnown circuit) rows
    all-known [] sized few = All-nil (IsKnown circuit)
    all-known (row ∷ rows) sized few =
        All-cons (IsKnown circuit) row rows
        (record { some = sized.0.some; narrow = sized.0.narrow; few = All-head (λ (r : Row). r.count < 2 ^ 32) row rows few; plain = sized.0.plain; at = sized.0.at })
        (all-known rows sized.1 (All-tail (λ (r : Row). r.count < 2 ^ 32) row rows few))

    pub rows-known : (rows : List Row) → rows ≡ rows_of circuit tree → All (λ row. row.count < 2 ^ 32) rows → AreKnown circuit rows
    rows-known rows is few = record { each = all-known rows (subst (Each (IsSized circuit)) (sym is) rows-sized) few; differ = subst AllDiffer (sym is) rows-differ }

    abbrev IsFew : Row → Type 0
    IsFew row = row.count < 2 ^ 32

    one-few : (row : Row) → row.count ≡ 1 → IsFew row
    one-few row e = omega (arith, e)

    each-few : (rows : List Row) → All IsFew rows → Each IsFew rows
    each-few [] all = tt
    each-few (row ∷ rows) all = (All-head IsFew row rows all, each-few rows (All-tail IsFew row rows all))

    pub table-known : (rows memories : List Row) → rows ≡ rows_of circuit tree → memories ≡ memory_rows circuit tree → All (λ row. row.count < 2 ^ 32) memories → AreKnown circuit rows
    table-known rows memories is made few =
        rows-known rows is (subst (All IsFew) (sym is) (all-each IsFew (rows_of circuit tree)
        (each-append IsFew all_registers (all_reads ++ (all_pipes ++ all_memories)) (each-map _ IsFew all_registers (λ row own. one-few row own.is.held.count) registers-each)
        (each-append IsFew all_reads (all_pipes ++ all_memories) (each-map _ IsFew all_reads (λ row own. one-few row own.is.count) reads-each)
        (each-append IsFew all_pipes all_memories (each-map _ IsFew all_pipes (λ row own. one-few row own.is.held.count) pipes-each)
        (by_path-each IsFew (memory_rows circuit tree) (each-few (memory_rows circuit tree) (subst (All IsFew) made few))))))))

    pub registers-distinct : AreDistinct (register_rows circuit)
    registers-distinct = distinct-of kind.Register (register_rows circuit) (each-map _ (λ row. row.kind ≡ kind.Register) (register_rows circuit) (λ row is. is.is.held.kind) registers-are) registers-differ

    pub reads-distinct : AreDistinct (read_rows circuit)
    reads-distinct = distinct-of kind.Read (read_rows circuit) (each-map _ (λ row. row.kind ≡ kind.Read) (read_rows circuit) (λ row is. is.is.kind) reads-are) reads-differ

    pub pipes-distinct : AreDistinct (pipe_rows circuit)
    pipes-distinct = distinct-of kind.Pipe (pipe_rows circuit) (each-map _ (λ row. row.kind ≡ kind.Pipe) (pipe_rows circuit) (λ row is. is.is.held.kind) pipes-are) pipes-differ

    pub memories-distinct : AreDistinct (memory_rows circuit tree)
    memories-distinct = distinct-of kind.Memory (memory_rows circuit tree) (each-map _ (λ row. row.kind ≡ kind.Memory) (memory_rows circuit tree) (λ row is. is.is.kind) memories-all) memories-differ
