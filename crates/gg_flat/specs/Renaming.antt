-- The parts of a flat circuit under other numbers of signals, registers, memories and clocks.
-- Source: FIRRTL Specification, "Instances": each instance of a module has all that the module declares, under names of its own.
use Rattle.std.specs.Prelude.{ℕ, List, Option, Some, None, map}
use Rattle.gg_flat.specs.declared.line.Node.{Node}
use Rattle.gg_flat.specs.declared.line.Op.{Op}
use Rattle.gg_flat.specs.declared.line.Op.TheVariants.{Ref, Literal, One, Two, Fix, Mux}
use Rattle.gg_flat.specs.declared.memory.Reader.{Reader}
use Rattle.gg_flat.specs.declared.memory.Writer.{Writer}
use Rattle.gg_flat.specs.declared.memory.Memory.{Memory}
use Rattle.gg_flat.specs.declared.piece.Register.{Register}
use Rattle.gg_flat.specs.declared.piece.Reset.{Reset}
use Rattle.gg_flat.specs.declared.piece.Driver.{Driver}
use Rattle.gg_flat.specs.declared.piece.Driver.TheVariants.{Input, Held, MemoryWord, ReadRegister, Computed}

-- Other numbers: one for each signal, each register and each memory, and another clock for each clock. None is the clock of every tick.
pub record Renaming : Type 0 where
  pub signals : ℕ → ℕ
  pub registers : ℕ → ℕ
  pub memories : ℕ → ℕ
  pub clocks : Option ℕ → Option ℕ

-- other numbers of signals, of registers and of memories
abbrev pub numbers_by : (signals registers memories : ℕ → ℕ) → Renaming
numbers_by signals registers memories = record { signals = signals; registers = registers; memories = memories; clocks = λ clock. clock }

-- other numbers of signals only
abbrev pub signals_by : (ℕ → ℕ) → Renaming
signals_by to = record { signals = to; registers = λ r. r; memories = λ m. m; clocks = λ clock. clock }

-- ---- lines, where `to` gives the number of each signal

-- an operation of a node under other numbers; only a reference names a signal
abbrev pub renamed_op : (ℕ → ℕ) → Op → Op
renamed_op to (Ref s) = Ref (to s)
renamed_op to (Literal value) = Literal value
renamed_op to (One op i) = One op i
renamed_op to (Two op i j) = Two op i j
renamed_op to (Fix op i n m) = Fix op i n m
renamed_op to (Mux c i j) = Mux c i j

-- a node of a line, with its type, under other numbers
abbrev pub renamed_node : (ℕ → ℕ) → Node → Node
renamed_node to node = record { ty = node.ty; op = renamed_op to node.op }

-- a line under other numbers
abbrev pub renamed_line : (ℕ → ℕ) → List Node → List Node
renamed_line to line = map (λ node. renamed_node to node) line

-- a register's connection, if it has one, under other numbers
abbrev pub renamed_next : (ℕ → ℕ) → Option (List Node) → Option (List Node)
renamed_next to None = None
renamed_next to (Some line) = Some (renamed_line to line)

-- a register's reset, if it has one, under other numbers
abbrev pub renamed_reset : (ℕ → ℕ) → Option Reset → Option Reset
renamed_reset to None = None
renamed_reset to (Some reset) = Some (record { condition = renamed_line to reset.condition; init = renamed_line to reset.init })

-- ---- registers, memories and drivers

-- a register under other numbers
abbrev pub renamed_register : Renaming → Register → Register
renamed_register by register =
    record {
      ty = register.ty;
      reset = renamed_reset by.signals register.reset;
      next = renamed_next by.signals register.next;
      clock = by.clocks register.clock;
    }

-- a reader of a memory under other numbers
abbrev pub renamed_reader : Renaming → Reader → Reader
renamed_reader by reader =
    record { addr = by.signals reader.addr; en = by.signals reader.en; word = by.signals reader.word; clock = by.clocks reader.clock }

-- a writer of a memory under other numbers
abbrev pub renamed_writer : Renaming → Writer → Writer
renamed_writer by writer =
    record {
      addr = by.signals writer.addr;
      en = by.signals writer.en;
      word = by.signals writer.word;
      mask = by.signals writer.mask;
      clock = by.clocks writer.clock;
    }

-- a memory with all its ports under other numbers
abbrev pub renamed_memory : Renaming → Memory → Memory
renamed_memory by memory =
    record {
      word = memory.word;
      depth = memory.depth;
      latency = memory.latency;
      readers = map (λ reader. renamed_reader by reader) memory.readers;
      writers = map (λ writer. renamed_writer by writer) memory.writers;
    }

-- a driver under other numbers; the places of inputs and of readers stay
abbrev pub renamed_driver : Renaming → Driver → Driver
renamed_driver by (Input place) = Input place
renamed_driver by (Held register) = Held (by.registers register)
renamed_driver by (MemoryWord memory reader addr en) = MemoryWord (by.memories memory) reader (by.signals addr) (by.signals en)
renamed_driver by (ReadRegister memory reader) = ReadRegister (by.memories memory) reader
renamed_driver by (Computed line) = Computed (renamed_line by.signals line)
