-- A circuit has at most one flat circuit.
use Rattle.std.proofs.Common.{◌≡◌, ℕ, ◌<◌, List, [], ◌∷◌, length, map, take, true, Option, Some, None, refl, sym, ap, ◌∙◌, subst, arith}
use Rattle.std.specs.Prelude.{slice_index_or, count_by}
use Rattle.std.proofs.lemmas.List.{ext_get_or, take_all, length-map}
use Rattle.gg_bits.specs.declared.types.Ty.{Ty}
use Rattle.gg_bits.specs.Shape.{Shape, shape, uint}
use Rattle.gg_ast.specs.declared.module.Port.{Port}
use Rattle.gg_ast.specs.declared.statement.Reset as given
use Rattle.gg_ast.specs.Tree.{CircuitTree}
use Rattle.gg_flat.specs.declared.line.Node.{Node}
use Rattle.gg_flat.specs.declared.line.Op.{Op}
use Rattle.gg_flat.specs.declared.memory.Latency.{Latency}
use Rattle.gg_flat.specs.declared.memory.Latency.TheVariants.{Zero}
use Rattle.gg_flat.specs.declared.memory.Memory.{Memory}
use Rattle.gg_flat.specs.declared.memory.Reader.{Reader}
use Rattle.gg_flat.specs.declared.memory.Writer.{Writer}
use Rattle.gg_flat.specs.declared.piece.Driver.{Driver}
use Rattle.gg_flat.specs.declared.piece.Driver.TheVariants.{Input, Computed}
use Rattle.gg_flat.specs.declared.piece.Register.{Register}
use Rattle.gg_flat.specs.declared.piece.Reset as kept
use Rattle.gg_flat.specs.declared.piece.Signal.{Signal}
use Rattle.gg_flat.specs.Circuit.{FlatCircuit, driver_at}
use Rattle.gg_flat.specs.Line.{shape_at}
use Rattle.gg_elab_sites.specs.Connection.{Connection}
use Rattle.gg_elab_sites.specs.Flat.{Drive, Outside, Gets, Holds, Answers, FlatSignal, FlatMemory}
use Rattle.gg_elab_sites.specs.IsFlat.{bindings_of, IsDrivenBy, HasReset, HasNext, IsRegisterOf, IsMemoryOf, IsFlatOf, IsFlat, is_outside, is_register, drive_at, count_before, signals_of}
use Rattle.gg_elab_sites.specs.Lines.{Laid, laid_node, laid}
use Rattle.gg_elab_sites.specs.Meaning.{Bindings, Context, in_scope}
use Rattle.gg_elab_sites.specs.Signals.{Types}
use Rattle.gg_elab_sites.proofs.PassingLemmas.{passing-at, passing-count}
use Rattle.gg_elab_sites.proofs.TyLemmas.{ty-equal}

-- ---- lines

abbrev node_made : Ty → Op → Node
node_made ty op = record { ty = ty; op = op }

node-same : (a b : Node) → laid_node a ≡ laid_node b → a ≡ b
node-same a b e =
    ap (λ (t : Ty). node_made t a.op) (ty-equal a.ty b.ty (ap (λ (l : Laid). l.shape) e))
    ∙ ap (λ (o : Op). node_made b.ty o) (ap (λ (l : Laid). l.op) e)

-- lines with the same nodes are equal
pub line-same : (a b : List Node) → laid a ≡ laid b → a ≡ b
line-same [] [] e = refl
line-same [] (y ∷ ys) e = absurd (cc)
line-same (x ∷ xs) [] e = absurd (cc)
line-same (x ∷ xs) (y ∷ ys) e =
    let first : x ≡ y = node-same x y (cc) in
    let rest : xs ≡ ys = line-same xs ys (cc) in
    cc

-- ---- drivers

driver-same : (bindings : Bindings) (rs qs : List Register) (inputs states : ℕ) (sink : Shape) (drive : Drive) (d e : Driver) → IsDrivenBy bindings rs inputs states sink drive d → IsDrivenBy bindings qs inputs states sink drive e → d ≡ e
driver-same bindings rs qs inputs states sink Outside d e h k = h ∙ sym k
driver-same bindings rs qs inputs states sink (Gets scope c) d e h k =
    h.computed ∙ ap Computed (line-same h.line k.line (h.stands.nodes ∙ sym k.stands.nodes)) ∙ sym k.computed
driver-same bindings rs qs inputs states sink (Holds scope reset next own clock) d e h k = h.held ∙ sym k.held
driver-same bindings rs qs inputs states sink (Answers memory place latency addr en) d e h k = h ∙ sym k

-- ---- registers

abbrev register_made : Ty → Option kept.Reset → Option (List Node) → Option ℕ → Register
register_made ty reset next clock = record { ty = ty; reset = reset; next = next; clock = clock }

abbrev reset_made : List Node → List Node → kept.Reset
reset_made condition init = record { condition = condition; init = init }

next-same : (context : Context) (sink : Shape) (asked : Option Connection) (a b : Option (List Node)) → HasNext context sink asked a → HasNext context sink asked b → a ≡ b
next-same context sink None a b h k = h ∙ sym k
next-same context sink (Some c) None b h k = absurd h
next-same context sink (Some c) (Some a) None h k = absurd k
next-same context sink (Some c) (Some a) (Some b) h k = ap Some (line-same a b (h.nodes ∙ sym k.nodes))

reset-same : (context : Context) (sink : Shape) (asked : Option given.Reset) (a b : Option kept.Reset) → HasReset context sink asked a → HasReset context sink asked b → a ≡ b
reset-same context sink None a b h k = h ∙ sym k
reset-same context sink (Some asked) None b h k = absurd h
reset-same context sink (Some asked) (Some a) None h k = absurd k
reset-same context sink (Some asked) (Some a) (Some b) h k =
    ap (λ (l : List Node). Some (reset_made l a.init)) (line-same a.condition b.condition (h.0.nodes ∙ sym k.0.nodes))
    ∙ ap (λ (l : List Node). Some (reset_made b.condition l)) (line-same a.init b.init (h.1.nodes ∙ sym k.1.nodes))

register-same : (context : Context) (sink : Shape) (reset : Option given.Reset) (next : Option Connection) (clock : Option ℕ) (a b : Register) → IsRegisterOf context sink reset next clock a → IsRegisterOf context sink reset next clock b → a ≡ b
register-same context sink reset next clock a b h k =
    ap (λ (t : Ty). register_made t a.reset a.next a.clock) (ty-equal a.ty b.ty (h.typed ∙ sym k.typed))
    ∙ ap (λ (r : Option kept.Reset). register_made b.ty r a.next a.clock) (reset-same context sink reset a.reset b.reset h.reset_is k.reset_is)
    ∙ ap (λ (n : Option (List Node)). register_made b.ty b.reset n a.clock) (next-same context sink next a.next b.next h.next_is k.next_is)
    ∙ ap (λ (c : Option ℕ). register_made b.ty b.reset b.next c) (h.clocked ∙ sym k.clocked)

-- ---- memories

abbrev memory_made : Ty → ℕ → Latency → List Reader → List Writer → Memory
memory_made word depth latency readers writers = record { word = word; depth = depth; latency = latency; readers = readers; writers = writers }

memory-same : (paths : List (List ℕ)) (said : FlatMemory) (a b : Memory) → IsMemoryOf paths said a → IsMemoryOf paths said b → a ≡ b
memory-same paths said a b p q =
    ap (λ (x : Ty). memory_made x a.depth a.latency a.readers a.writers) (ty-equal a.word b.word (p.word ∙ sym q.word))
    ∙ ap (λ (x : ℕ). memory_made b.word x a.latency a.readers a.writers) (p.depth ∙ sym q.depth)
    ∙ ap (λ (x : Latency). memory_made b.word b.depth x a.readers a.writers) (p.latency ∙ sym q.latency)
    ∙ ap (λ (x : List Reader). memory_made b.word b.depth b.latency x a.writers) (p.readers ∙ sym q.readers)
    ∙ ap (λ (x : List Writer). memory_made b.word b.depth b.latency b.readers x) (p.writers ∙ sym q.writers)

-- ---- signals

abbrev signal_made : Ty → Driver → Signal
signal_made ty driver = record { ty = ty; driver = driver }

signals-same : (xs ys : List Signal) → map (λ x. shape x.ty) xs ≡ map (λ y. shape y.ty) ys → map (λ x. x.driver) xs ≡ map (λ y. y.driver) ys → xs ≡ ys
signals-same [] [] e k = refl
signals-same [] (y ∷ ys) e k = absurd (cc)
signals-same (x ∷ xs) [] e k = absurd (cc)
signals-same (x ∷ xs) (y ∷ ys) e k =
    let first : x ≡ y = ap (λ (t : Ty). signal_made t x.driver) (ty-equal x.ty y.ty (cc)) ∙ ap (λ (d : Driver). signal_made y.ty d) (cc) in
    let rest : xs ≡ ys = signals-same xs ys (cc) (cc) in
    cc

-- ---- all of it

-- lists of one length are equal if they are at each place, whatever the defaults are
list-same : {A : Type 0} (xs ys : List A) → length xs ≡ length ys → ((k : ℕ) (a b : A) → k < length xs → slice_index_or xs k a ≡ slice_index_or ys k b) → xs ≡ ys
list-same [] [] e h = refl
list-same [] (y ∷ ys) e h = absurd (omega (arith, e))
list-same (x ∷ xs) [] e h = absurd (omega (arith, e))
list-same (x ∷ xs) (y ∷ ys) e h = ext_get_or x (x ∷ xs) (y ∷ ys) e (λ k lt. h k x x lt)

abbrev circuit_made : List (List ℕ) → List Signal → List Register → List Memory → List ℕ → List ℕ → ℕ → FlatCircuit
circuit_made paths signals registers memories ins outs clocks = record { paths = paths; signals = signals; registers = registers; memories = memories; ins = ins; outs = outs; clocks = clocks }

module _ (types : Types) (all : List FlatSignal) (banks : List FlatMemory) (ports : List Port) (stops : List (List ℕ)) (f g : FlatCircuit) (one : IsFlatOf types all banks ports stops f) (other : IsFlatOf types all banks ports stops g) where
  counted : (flat : FlatCircuit) → IsFlatOf types all banks ports stops flat → length flat.signals ≡ length all
  counted flat h =
      sym (length-map flat.signals (λ signal. shape signal.ty)) ∙ ap length h.shapes ∙ length-map all (λ x. x.shape)

  drivers-same : map (λ x. x.driver) f.signals ≡ map (λ y. y.driver) g.signals
  drivers-same =
      let left : length (map (λ (x : Signal). x.driver) f.signals) ≡ length all = length-map f.signals (λ (x : Signal). x.driver) ∙ counted f one in
      let right : length (map (λ (x : Signal). x.driver) g.signals) ≡ length all = length-map g.signals (λ (x : Signal). x.driver) ∙ counted g other in
      ext_get_or (Input 0) (map (λ x. x.driver) f.signals) (map (λ y. y.driver) g.signals) (left ∙ sym right)
      (λ s lt. let within : s < length all = omega (arith, lt, left) in
      driver-same (bindings_of types all banks) f.registers g.registers (count_before is_outside all s) (count_before is_register all s) (shape_at (signals_of all).shapes s) (drive_at all s) (driver_at f s) (driver_at g s) (one.drivers s within) (other.drivers s within))

  -- the registers that a signal holds in the two flat circuits are equal
  abbrev SameAt : ℕ → Type 0
  SameAt r = (a b : Register) → slice_index_or f.registers r a ≡ slice_index_or g.registers r b

  register_at : (s r : ℕ) (drive : Drive) (d e : Driver) → is_register drive ≡ true → IsDrivenBy (bindings_of types all banks) f.registers (count_before is_outside all s) r (shape_at (signals_of all).shapes s) drive d → IsDrivenBy (bindings_of types all banks) g.registers (count_before is_outside all s) r (shape_at (signals_of all).shapes s) drive e → SameAt r
  register_at s r Outside d e is h k = absurd (cc)
  register_at s r (Gets scope c) d e is h k = absurd (cc)
  register_at s r (Holds scope reset next own clock) d e is h k = λ a b. register-same (in_scope (bindings_of types all banks) scope) _ reset next clock _ _ (h.register a) (k.register b)
  register_at s r (Answers memory place latency addr en) d e is h k = absurd (cc)

  registers_at : (r : ℕ) → r < length f.registers → SameAt r
  registers_at r lt =
      let drives : List Drive = map (λ x. x.drive) all in
      let total : count_by is_register (take (length all) drives) ≡ count_by is_register drives =
      ap (λ (ds : List Drive). count_by is_register ds) (take_all (length all) drives (omega (arith, length-map all (λ (x : FlatSignal). x.drive)))) in
      let few : r < count_by is_register drives = let e = one.register_count in omega (arith, lt, e, total) in
      let held = passing-at is_register drives 0 r 0 (omega (arith, few, passing-count is_register drives 0)) in
      let within : held.place < length all = let p = held.inside in omega (arith, p, length-map all (λ (x : FlatSignal). x.drive)) in
      subst SameAt held.before
      (register_at held.place (count_before is_register all held.place) (drive_at all held.place) (driver_at f held.place) (driver_at g held.place) (held.passes Outside) (one.drivers held.place within) (other.drivers held.place within))

  memories_at : (m : ℕ) (a b : Memory) → m < length f.memories → slice_index_or f.memories m a ≡ slice_index_or g.memories m b
  memories_at m a b lt =
      let few : m < length banks = let e = one.memory_count in omega (arith, e) in
      let none : FlatMemory = record { path = []; bank = record { word = uint 0; depth = 0; latency = Zero; readers = []; writers = [] }; own_clock = λ port. None; clock = λ port. None } in
      memory-same (signals_of all).paths (slice_index_or banks m none) _ _ (one.memories m none a few) (other.memories m none b few)

  pub circuit-same : f ≡ g
  circuit-same =
      ap (λ x. circuit_made x f.signals f.registers f.memories f.ins f.outs f.clocks) (one.paths ∙ sym other.paths)
      ∙ ap (λ x. circuit_made g.paths x f.registers f.memories f.ins f.outs f.clocks) (signals-same f.signals g.signals (one.shapes ∙ sym other.shapes) drivers-same)
      ∙ ap (λ x. circuit_made g.paths g.signals x f.memories f.ins f.outs f.clocks) (list-same f.registers g.registers (one.register_count ∙ sym other.register_count) (λ r a b lt. registers_at r lt a b))
      ∙ ap (λ x. circuit_made g.paths g.signals g.registers x f.ins f.outs f.clocks) (list-same f.memories g.memories (one.memory_count ∙ sym other.memory_count) memories_at)
      ∙ ap (λ x. circuit_made g.paths g.signals g.registers g.memories x f.outs f.clocks) (one.ins ∙ sym other.ins)
      ∙ ap (λ x. circuit_made g.paths g.signals g.registers g.memories g.ins x f.clocks) (one.outs ∙ sym other.outs)
      ∙ ap (λ x. circuit_made g.paths g.signals g.registers g.memories g.ins g.outs x) (one.clocks ∙ sym other.clocks)

-- all flat circuits of a circuit are equal
pub flats-same : (circuit : CircuitTree) (one other : FlatCircuit) → IsFlat circuit one → IsFlat circuit other → one ≡ other
flats-same circuit one other a b = circuit-same _ _ _ _ _ one other a b
