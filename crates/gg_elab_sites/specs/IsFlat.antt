-- Which flat circuit a circuit has.
-- Source: FIRRTL Specification, "Circuits and Modules", "Instances", "Statements", "Memories", "Connects", "Invalidates", "Stop". It has
-- the signals, registers, memories, ports and clocks of the circuit's sites, and nothing more. There is only one, because the nodes of each
-- line are fixed, not only its value and the signals that it names.
use Rattle.std.specs.Prelude.{◌≡◌, ℕ, ◌<◌, ◌↔◌, List, [], ◌++◌, Option, Some, None, Bool, true, false, MatchOption, length, map, take, filter_map, count_by, slice_index_or, unwrap_or, if◌then◌else◌, ◌&&◌, is_some, codes}
use Rattle.gg_bits.specs.Shape.{Shape, shape}
use Rattle.gg_ast.specs.declared.module.Direction.{Direction}
use Rattle.gg_ast.specs.declared.module.Direction.TheVariants as direction
use Rattle.gg_ast.specs.declared.module.Port.{Port}
use Rattle.gg_ast.specs.declared.statement.Reset as given
use Rattle.gg_ast.specs.Places.{place_of}
use Rattle.gg_ast.specs.Term.{Term}
use Rattle.gg_ast.specs.Tree.{ModuleTree, CircuitTree, module_names}
use Rattle.gg_flat.specs.declared.line.Node.{Node}
use Rattle.gg_flat.specs.declared.memory.Latency.{Latency}
use Rattle.gg_flat.specs.declared.memory.Latency.TheVariants.{Zero, One}
use Rattle.gg_flat.specs.declared.memory.Reader.{Reader}
use Rattle.gg_flat.specs.declared.memory.Writer.{Writer}
use Rattle.gg_flat.specs.declared.memory.Memory.{Memory}
use Rattle.gg_flat.specs.declared.piece.Register.{Register}
use Rattle.gg_flat.specs.declared.piece.Reset as kept
use Rattle.gg_flat.specs.declared.piece.Driver.{Driver}
use Rattle.gg_flat.specs.declared.piece.Driver.TheVariants.{Input, Held, MemoryWord, ReadRegister, Computed}
use Rattle.gg_flat.specs.Circuit.{FlatCircuit, signal_shapes, driver_at}
use Rattle.gg_flat.specs.Line.{shape_at, line_value, connected_value as line_connected}
use Rattle.gg_flat.specs.Reads.{Names}
use Rattle.gg_types.specs.Clocks.{clock_inputs}
use Rattle.gg_elab_sites.specs.Sites.{module_at, sites_of}
use Rattle.gg_types.specs.Memories.{type_shape}
use Rattle.gg_elab_sites.specs.Signals.{Types, field_name}
use Rattle.gg_elab_sites.specs.Connection.{Connection}
use Rattle.gg_elab_sites.specs.Flat.{Drive, Outside, Gets, Holds, Answers, FlatSignal, FlatMemory, flat_signals, flat_memories, stop_paths}
use Rattle.gg_elab_sites.specs.Known.{types_of}
use Rattle.gg_elab_sites.specs.Lines.{laid, connected_line, taken_line, condition_line}
use Rattle.gg_elab_sites.specs.Meaning.{Signals, Bindings, Context, in_scope, TermNames, taken_value, connected_value, ConnectionNames, condition_value}

-- ---- lines

-- A line has the value that a sink of this shape gets from its connection, and names exactly the signals that this connection names.
pub record IsLineFor (context : Context) (sink : Shape) (c : Option Connection) (line : List Node) : Type 0 where
  pub value : (values : List ℕ) → line_connected values sink line ≡ connected_value context values sink c
  pub names : (s : ℕ) → Names line s ↔ ConnectionNames context s c
  pub nodes : laid line ≡ connected_line context sink c

-- A line has the value that a sink of this shape gets from an expression.
pub record IsLineOf (context : Context) (sink : Shape) (e : Term) (line : List Node) : Type 0 where
  -- the line's value is what the sink gets, whatever values the signals have
  pub value : (values : List ℕ) → line_connected values sink line ≡ taken_value context values sink e
  pub names : (s : ℕ) → Names line s ↔ TermNames context s e
  -- the line's nodes are fixed by the expression
  pub nodes : laid line ≡ taken_line context sink e

-- A line is a condition: it has its value, and names exactly the signals that the expression names.
pub record IsConditionOf (context : Context) (e : Term) (line : List Node) : Type 0 where
  pub value : (values : List ℕ) → line_value values line ≡ condition_value context values e
  pub names : (s : ℕ) → Names line s ↔ TermNames context s e
  pub nodes : laid line ≡ condition_line context e

-- ---- registers

-- There is a reset just if one is written. Its condition is a condition, and its value is what the register gets from its initial value.
abbrev pub HasReset : Context → Shape → Option given.Reset → Option kept.Reset → Type 0
HasReset context sink None reset = reset ≡ None
HasReset context sink (Some asked) reset =
    MatchOption reset ⊥ (λ r. IsConditionOf context asked.condition r.condition × IsLineOf context sink asked.init r.init)

-- a register without a connection keeps its value
abbrev pub HasNext : Context → Shape → Option Connection → Option (List Node) → Type 0
HasNext context sink None next = next ≡ None
HasNext context sink (Some c) next = MatchOption next ⊥ (IsLineFor context sink (Some c))

-- A register of this shape, with this reset and this connection as they are written in `context`, that follows this clock of the circuit,
-- if any.
pub record IsRegisterOf (context : Context) (sink : Shape) (reset : Option given.Reset) (next : Option Connection) (clock : Option ℕ) (register : Register) : Type 0 where
  pub typed : shape register.ty ≡ sink
  pub reset_is : HasReset context sink reset register.reset
  pub next_is : HasNext context sink next register.next
  pub clocked : register.clock ≡ clock

-- ---- numbers

-- the number of the first signal, or the first memory, with a path; 0 if none has it
abbrev pub number_of : List (List ℕ) → List ℕ → ℕ
number_of paths path = unwrap_or (place_of path paths) 0

-- whether a signal is an input of the circuit
abbrev pub is_outside : Drive → Bool
is_outside Outside = true
is_outside (Gets scope c) = false
is_outside (Holds scope reset next own clock) = false
is_outside (Answers memory place latency addr en) = false

-- whether a signal holds a register's state
abbrev pub is_register : Drive → Bool
is_register Outside = false
is_register (Gets scope c) = false
is_register (Holds scope reset next own clock) = true
is_register (Answers memory place latency addr en) = false

-- the drive of signal s, as it is listed; past the end the drive of an input
abbrev pub drive_at : List FlatSignal → ℕ → Drive
drive_at all s = slice_index_or (map (λ x. x.drive) all) s Outside

-- how many signals before signal s pass a test
abbrev pub count_before : (Drive → Bool) → List FlatSignal → ℕ → ℕ
count_before p all s = count_by p (take s (map (λ x. x.drive) all))

-- ---- drivers

-- the driver of a reader's data, by its latency
abbrev pub answer : Latency → ℕ → ℕ → ℕ → ℕ → Driver
answer Zero memory reader addr en = MemoryWord memory reader addr en
answer (One under) memory reader addr en = ReadRegister memory reader

-- The signal has a line for its connection.
pub record IsComputed (context : Context) (sink : Shape) (c : Option Connection) (driver : Driver) : Type 0 where
  pub line : List Node
  pub computed : driver ≡ Computed line
  pub stands : IsLineFor context sink c line

-- The signal has the state of this register.
pub record IsHeld (context : Context) (sink : Shape) (reset : Option given.Reset) (next : Option Connection) (clock : Option ℕ) (registers : List Register) (number : ℕ) (driver : Driver) : Type 0 where
  pub held : driver ≡ Held number
  pub within : number < length registers
  pub register : (any : Register) → IsRegisterOf context sink reset next clock (slice_index_or registers number any)

-- A signal's driver is what its drive says. Inputs and registers are numbered in the order of the signals.
abbrev pub IsDrivenBy : Bindings → List Register → ℕ → ℕ → Shape → Drive → Driver → Type 0
IsDrivenBy bindings registers inputs states sink Outside driver = driver ≡ Input inputs
IsDrivenBy bindings registers inputs states sink (Gets scope c) driver = IsComputed (in_scope bindings scope) sink c driver
IsDrivenBy bindings registers inputs states sink (Holds scope reset next own clock) driver = IsHeld (in_scope bindings scope) sink reset next clock registers states driver
IsDrivenBy bindings registers inputs states sink (Answers memory place latency addr en) driver =
    driver ≡ answer latency (number_of bindings.memories memory) place (number_of bindings.signals.paths addr) (number_of bindings.signals.paths en)

-- Signal s of a flat circuit has the driver that its drive says. `all` are the circuit's signals, or its first ones.
abbrev pub IsDriven : Bindings → List FlatSignal → FlatCircuit → ℕ → Type 0
IsDriven bindings all flat s =
    IsDrivenBy bindings flat.registers (count_before is_outside all s) (count_before is_register all s) (shape_at (map (λ x. x.shape) all) s) (drive_at all s) (driver_at flat s)

-- ---- memories

-- the field of a port of a memory
abbrev pub field_number : List (List ℕ) → List ℕ → List ℕ → List ℕ → ℕ
field_number paths memory port field = number_of paths (field_name memory port field)

-- the reader of this name of a memory, by the numbers of its fields and the clock of the circuit that it follows
abbrev pub reader_of : List (List ℕ) → FlatMemory → List ℕ → Reader
reader_of paths said port =
    record {
      addr = field_number paths said.path port (codes "addr");
      en = field_number paths said.path port (codes "en");
      word = field_number paths said.path port (codes "data");
      clock = said.clock port;
    }

-- the writer of this name of a memory, by the numbers of its fields and the clock of the circuit that it follows
abbrev pub writer_of : List (List ℕ) → FlatMemory → List ℕ → Writer
writer_of paths said port =
    record {
      addr = field_number paths said.path port (codes "addr");
      en = field_number paths said.path port (codes "en");
      word = field_number paths said.path port (codes "data");
      mask = field_number paths said.path port (codes "mask");
      clock = said.clock port;
    }

-- The flat circuit's memory is what the fields of a memory make, with the same readers and writers, each in the order of the file.
pub record IsMemoryOf (paths : List (List ℕ)) (said : FlatMemory) (memory : Memory) : Type 0 where
  pub word : shape memory.word ≡ said.bank.word
  pub depth : memory.depth ≡ said.bank.depth
  pub latency : memory.latency ≡ said.bank.latency
  pub readers : memory.readers ≡ map (reader_of paths said) said.bank.readers
  pub writers : memory.writers ≡ map (writer_of paths said) said.bank.writers

-- ---- ports

-- whether two directions are the same
abbrev pub same_direction : Direction → Direction → Bool
same_direction direction.Input direction.Input = true
same_direction direction.Input direction.Output = false
same_direction direction.Output direction.Input = false
same_direction direction.Output direction.Output = true

-- the name of a port, if it has this direction and isn't a Clock
abbrev pub port_name : Direction → Port → Option (List ℕ)
port_name way port = if same_direction way port.direction && is_some (type_shape port.ty) then Some port.name else None

-- the names of the ports of a direction, without Clocks
abbrev pub port_names : Direction → List Port → List (List ℕ)
port_names way ports = filter_map (port_name way) ports

-- the ports of the top; none if there is no top
abbrev pub top_ports : List ModuleTree → Option ℕ → List Port
top_ports modules None = []
top_ports modules (Some k) = (module_at modules k).ports

-- ---- all of it

-- the paths and the shapes of signals
abbrev pub signals_of : List FlatSignal → Signals
signals_of all = record { paths = map (λ x. x.path) all; shapes = map (λ x. x.shape) all }

-- the paths of memories, in order
abbrev pub memory_paths : List FlatMemory → List (List ℕ)
memory_paths banks = map (λ x. x.path) banks

-- the meaning of names in a circuit with these signals and memories
abbrev pub bindings_of : Types → List FlatSignal → List FlatMemory → Bindings
bindings_of types all banks = record { types = types; signals = signals_of all; memories = memory_paths banks }

-- The flat circuit of these signals, memories and stops, with these ports of the top. It has exactly these signals, each
-- with its driver; the registers that they hold, in turn; these memories; the ports, in port order; and a clock for each
-- Clock input. The stops come after the outputs.
pub record IsFlatOf (types : Types) (all : List FlatSignal) (banks : List FlatMemory) (ports : List Port) (stops : List (List ℕ)) (flat : FlatCircuit) : Type 0 where
  pub paths : flat.paths ≡ (signals_of all).paths
  pub shapes : signal_shapes flat ≡ (signals_of all).shapes
  pub drivers : (s : ℕ) → s < length all → IsDriven (bindings_of types all banks) all flat s
  pub register_count : length flat.registers ≡ count_before is_register all (length all)
  pub memory_count : length flat.memories ≡ length banks
  pub memories : (m : ℕ) (said : FlatMemory) (any : Memory) → m < length banks → IsMemoryOf (signals_of all).paths (slice_index_or banks m said) (slice_index_or flat.memories m any)
  pub ins : flat.ins ≡ map (number_of (signals_of all).paths) (port_names direction.Input ports)
  -- the outputs in port order, followed by the stops
  pub outs : flat.outs ≡ map (number_of (signals_of all).paths) (port_names direction.Output ports ++ stops)
  pub clocks : flat.clocks ≡ length (clock_inputs ports)

-- The flat circuit of a circuit, if the type checks give its names these shapes.
abbrev pub IsFlatWith : Types → CircuitTree → FlatCircuit → Type 0
IsFlatWith types circuit flat =
    IsFlatOf types
    (flat_signals types circuit.modules (sites_of circuit))
    (flat_memories circuit.modules (sites_of circuit))
    (top_ports circuit.modules (place_of circuit.name (module_names circuit)))
    (stop_paths circuit.modules (sites_of circuit))
    flat

-- The flat circuit of a circuit.
abbrev pub IsFlat : CircuitTree → FlatCircuit → Type 0
IsFlat circuit flat = IsFlatWith (types_of circuit) circuit flat
