-- The signals that a module has of its own.
-- Source: FIRRTL Specification, "Circuits and Modules" (ports), "Statements" (wires, registers, nodes), "Memories"
-- (the fields of ports), "Stop". A Clock isn't a signal. That a stop's condition is a signal is this program's own.
use Rattle.std.specs.Prelude.{ℕ, suc, List, [], ◌∷◌, ◌++◌, Option, Some, None, map, option_map, option_to_list, filter_map, flat_map, codes, decimal}
use Rattle.gg_bits.specs.Shape.{Shape, uint}
use Rattle.gg_ast.specs.declared.expression.Reference.{Reference}
use Rattle.gg_ast.specs.declared.expression.Reference.TheVariants as reference
use Rattle.gg_ast.specs.declared.module.Direction.{Direction}
use Rattle.gg_ast.specs.declared.module.Direction.TheVariants.{Input, Output}
use Rattle.gg_ast.specs.declared.module.Port.{Port}
use Rattle.gg_ast.specs.declared.statement.Reset.{Reset}
use Rattle.gg_ast.specs.declared.statement.Stmt.{Stmt}
use Rattle.gg_ast.specs.declared.statement.StmtKind.{StmtKind}
use Rattle.gg_ast.specs.declared.statement.StmtKind.TheVariants as says
use Rattle.gg_ast.specs.Term.{Term}
use Rattle.gg_ast.specs.Tree.{ModuleTree}
use Rattle.gg_flat.specs.declared.memory.Latency.{Latency}
use Rattle.gg_flat.specs.Memory.{address_width}
use Rattle.gg_types.specs.Memories.{Bank, bank_of, type_shape}

-- The source of a signal's value in its module: whatever holds the module, for an input port; a connection; the expression of a node or of
-- a stop's condition; a register's state, with its clock and its reset; or what the reader at this place of a memory answers.
pub data Cause : Type 0 where
  FromOutside : Cause
  Connected : Cause
  Expressed : Term → Cause
  Kept : Term → Option Reset → Cause
  Answered : List ℕ → List ℕ → ℕ → Latency → Cause

-- a signal of a module: its name as it is written there, its shape, and the source of its value
pub record Own : Type 0 where
  pub name : List ℕ
  pub shape : Shape
  pub cause : Cause

-- a signal of this name, with this cause and this shape
abbrev pub own : List ℕ → Cause → Shape → Own
own name cause shape = record { name = name; shape = shape; cause = cause }

-- two names with a dot between them
abbrev pub dotted : List ℕ → List ℕ → List ℕ
dotted a b = a ++ 46 ∷ b

-- the field of a memory's port, as it is written
abbrev pub field_name : List ℕ → List ℕ → List ℕ → List ℕ
field_name memory port field = dotted memory (dotted port field)

-- the source of a port's value: the outside for an input; for an output its connection
abbrev pub cause_of_port : Direction → Cause
cause_of_port Input = FromOutside
cause_of_port Output = Connected

-- the signal of a port; none for a Clock
abbrev pub own_of_port : Port → Option Own
own_of_port port = option_map (own port.name (cause_of_port port.direction)) (type_shape port.ty)

-- the fields of the reader at a place: its address, its enable and its data
abbrev pub reader_signals : List ℕ → Bank → ℕ → List ℕ → List Own
reader_signals memory bank place port =
    own (field_name memory port (codes "addr")) Connected (uint (address_width bank.depth))
    ∷ own (field_name memory port (codes "en")) Connected (uint 1)
    ∷ own (field_name memory port (codes "data")) (Answered memory port place bank.latency) bank.word
    ∷ []

-- the fields of a writer: its address, its enable, its data and its mask
abbrev pub writer_signals : List ℕ → Bank → List ℕ → List Own
writer_signals memory bank port =
    own (field_name memory port (codes "addr")) Connected (uint (address_width bank.depth))
    ∷ own (field_name memory port (codes "en")) Connected (uint 1)
    ∷ own (field_name memory port (codes "data")) Connected bank.word
    ∷ own (field_name memory port (codes "mask")) Connected (uint 1)
    ∷ []

-- the fields of these readers; the first reader is at this place
abbrev pub readers_signals : List ℕ → Bank → ℕ → List (List ℕ) → List Own
readers_signals memory bank place [] = []
readers_signals memory bank place (port ∷ ports) = reader_signals memory bank place port ++ readers_signals memory bank (suc place) ports

-- the fields of a memory: of its readers and then of its writers, each in the order of the file
abbrev pub memory_signals : List ℕ → Option Bank → List Own
memory_signals memory None = []
memory_signals memory (Some bank) = readers_signals memory bank 0 bank.readers ++ flat_map (writer_signals memory bank) bank.writers

-- the types of names in the module at a place, from the type checks: the shape of what a reference names, if that is a value and not a
-- Clock
abbrev pub Types : Type 0
Types = ℕ → Reference → Option Shape

-- the signals of a statement; a node has its expression's shape
abbrev pub own_of_kind : Types → ℕ → StmtKind → List Own
own_of_kind types k (says.Wire name ty) = option_to_list (option_map (own name Connected) (type_shape ty))
own_of_kind types k (says.Node name value) = option_to_list (option_map (own name (Expressed value)) (types k (reference.Local name)))
own_of_kind types k (says.Register name ty clock reset) = option_to_list (option_map (own name (Kept clock reset)) (type_shape ty))
own_of_kind types k (says.Instance name m) = []
own_of_kind types k (says.Memory name fields) = memory_signals name (bank_of fields)
own_of_kind types k (says.Connect sink source) = []
own_of_kind types k (says.Invalid sink) = []
own_of_kind types k says.Skip = []
own_of_kind types k (says.Stop clock condition code label) = []
own_of_kind types k (says.Report word arguments label) = []

-- ---- stops

-- the clock and the condition of a `stop`
pub record Asked : Type 0 where
  pub clock : Term
  pub condition : Term

-- a stop of a module: its name, which no declared name is, and what it says
pub record OwnStop : Type 0 where
  pub name : List ℕ
  pub asked : Asked

-- the name of the stop with this number in its module; no identifier has a colon
abbrev pub stop_name : ℕ → List ℕ
stop_name k = codes "stop:" ++ decimal k

-- the clock and the condition of a stop; none for any other statement
abbrev pub stop_of_kind : StmtKind → Option Asked
stop_of_kind (says.Wire name ty) = None
stop_of_kind (says.Node name value) = None
stop_of_kind (says.Register name ty clock reset) = None
stop_of_kind (says.Instance name m) = None
stop_of_kind (says.Memory name fields) = None
stop_of_kind (says.Connect sink source) = None
stop_of_kind (says.Invalid sink) = None
stop_of_kind says.Skip = None
stop_of_kind (says.Stop clock condition code label) = Some (record { clock = clock; condition = condition })
stop_of_kind (says.Report word arguments label) = None

-- stops, numbered starting at k
abbrev pub numbered : ℕ → List Asked → List OwnStop
numbered k [] = []
numbered k (asked ∷ rest) = record { name = stop_name k; asked = asked } ∷ numbered (suc k) rest

-- the stops of a module, numbered in the order of the file from 0; the name and the code of a stop have no effect
abbrev pub own_stops : List Stmt → List OwnStop
own_stops statements = numbered 0 (filter_map (λ (s : Stmt). stop_of_kind s.kind) statements)

-- a stop's signal is one bit
abbrev pub stop_signal : OwnStop → Own
stop_signal stop = own stop.name (Expressed stop.asked.condition) (uint 1)

-- ---- all of them

-- the signals that statements declare, in the order of the file, and then their stops
abbrev pub statement_signals : Types → ℕ → List Stmt → List Own
statement_signals types k statements = flat_map (λ (s : Stmt). own_of_kind types k s.kind) statements ++ map stop_signal (own_stops statements)

-- the signals of the module at place k: of its ports, and then of its statements
abbrev pub own_signals : Types → ℕ → ModuleTree → List Own
own_signals types k m = filter_map own_of_port m.ports ++ statement_signals types k m.statements

-- ---- memories

-- a memory of a module: its name, and what its fields say
pub record OwnBank : Type 0 where
  pub name : List ℕ
  pub bank : Bank

-- a memory of this name
abbrev pub own_bank : List ℕ → Bank → OwnBank
own_bank name bank = record { name = name; bank = bank }

-- the memory that a statement declares, if its fields make one; none for any other statement
abbrev pub bank_of_kind : StmtKind → Option OwnBank
bank_of_kind (says.Wire name ty) = None
bank_of_kind (says.Node name value) = None
bank_of_kind (says.Register name ty clock reset) = None
bank_of_kind (says.Instance name m) = None
bank_of_kind (says.Memory name fields) = option_map (own_bank name) (bank_of fields)
bank_of_kind (says.Connect sink source) = None
bank_of_kind (says.Invalid sink) = None
bank_of_kind says.Skip = None
bank_of_kind (says.Stop clock condition code label) = None
bank_of_kind (says.Report word arguments label) = None

-- the memories of a module, in the order of the file
abbrev pub own_banks : List Stmt → List OwnBank
own_banks statements = filter_map (λ (s : Stmt). bank_of_kind s.kind) statements
