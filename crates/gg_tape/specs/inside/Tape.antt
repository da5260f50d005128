-- Tapes: which instructions compute which drivers and which registers.
use Rattle.std.specs.Prelude.{◌≡◌, ℕ, ◌-◌, ◌<◌, ◌≤◌, List, ◌++◌, Option, Some, None, length, map, take, drop, get_or, All}
use Rattle.gg_bits.specs.Shape.{Shape, shape}
use Rattle.gg_flat.specs.declared.line.Node.{Node}
use Rattle.gg_bits.specs.declared.types.Kind.TheVariants.{UInt}
use Rattle.gg_flat.specs.declared.line.Op.TheVariants.{Ref}
use Rattle.gg_flat.specs.declared.piece.Driver.{Driver}
use Rattle.gg_flat.specs.declared.piece.Driver.TheVariants.{Input, Held, MemoryWord, ReadRegister, Computed}
use Rattle.gg_flat.specs.declared.piece.Register.{Register}
use Rattle.gg_flat.specs.declared.piece.Reset.{Reset}
use Rattle.gg_flat.specs.Line.{shape_at, value_at, op_at, line_shape, IsLine, IsSource}
use Rattle.gg_flat.specs.inside.Line.{HasValue}
use Rattle.gg_flat.specs.Circuit.{FlatCircuit, signal_shapes, driver_at}
use Rattle.gg_tape.specs.declared.instruction.Instruction.{Instruction}
use Rattle.gg_tape.specs.declared.code.Stretch.{Stretch}
use Rattle.gg_tape.specs.declared.code.Code.{Code}
use Rattle.gg_tape.specs.declared.taped.Origin.{Origin}
use Rattle.gg_tape.specs.declared.taped.Origin.TheVariants.{FromInput, FromRegister, FromMemory, FromReader, FromSignal, FromLine}
use Rattle.gg_tape.specs.declared.taped.TapedSignal.{TapedSignal}
use Rattle.gg_tape.specs.declared.taped.TapedReset.{TapedReset}
use Rattle.gg_tape.specs.declared.taped.TapedRegister.{TapedRegister}
use Rattle.gg_tape.specs.declared.tape.Tape.{Tape}
use Rattle.gg_tape.specs.inside.Instruction.{small}
use Rattle.gg_tape.specs.inside.Told.{Told}
use Rattle.gg_tape.specs.inside.Cells.{Celled}

-- ---- lines

-- the instructions of a stretch
abbrev pub stretch_of : List Instruction → Stretch → List Instruction
stretch_of instructions stretch = take (stretch.to - stretch.from) (drop stretch.from instructions)

-- The instructions of a stretch compute a line, where there are n signals.
pub record TellsLine (n : ℕ) (code : Code) (stretch : Stretch) (line : List Node) : Type 0 where
  pub within : stretch.to ≤ length code.instructions.items
  pub own : small stretch.own ≡ line_shape line
  pub told : Told line n code.literals.items 0 (stretch_of code.instructions.items stretch)

-- They compute it for a sink of this shape.
pub record TellsFor (n : ℕ) (code : Code) (sink : Shape) (stretch : Stretch) (line : List Node) : Type 0 where
  pub tells : TellsLine n code stretch line
  pub sink_is : small stretch.sink ≡ sink

-- instructions and literals were added at the end
pub record Grows (old new : Code) : Type 0 where
  pub more : List Instruction
  pub further : List ℕ
  pub instructions_are : new.instructions.items ≡ old.instructions.items ++ more
  pub literals_are : new.literals.items ≡ old.literals.items ++ further

-- ---- signals

-- a line is nothing but a reference to signal s, of kind `UInt`
pub record IsReference (s : ℕ) (line : List Node) : Type 0 where
  pub alone : length line ≡ 1
  pub op : op_at line 0 ≡ Ref s
  pub natural : (line_shape line).kind ≡ UInt

-- the value of a driver for a sink of this shape comes from there
abbrev pub IsOrigin : ℕ → Code → Shape → Origin → Driver → Type 0
IsOrigin n code sink (FromInput place) driver = driver ≡ Input place
IsOrigin n code sink (FromRegister register) driver = driver ≡ Held register
IsOrigin n code sink (FromMemory memory addr en) driver = (reader : ℕ) × (driver ≡ MemoryWord memory reader addr en)
IsOrigin n code sink (FromReader memory reader) driver = driver ≡ ReadRegister memory reader
IsOrigin n code sink (FromSignal s) driver = (line : List Node) × (driver ≡ Computed line) × IsReference s line
IsOrigin n code sink (FromLine stretch) driver = (line : List Node) × (driver ≡ Computed line) × TellsFor n code sink stretch line

-- a signal of a tape is one of the circuit's, with its driver
pub record IsTapedSignal (circuit : FlatCircuit) (code : Code) (taped : TapedSignal) : Type 0 where
  pub known : taped.signal < length circuit.signals
  pub origin : IsOrigin (length circuit.signals) code (shape_at (signal_shapes circuit) taped.signal) taped.origin (driver_at circuit taped.signal)

-- ---- registers

-- the instructions of a connection to a register of this shape, if there is one
abbrev pub IsTapedNext : ℕ → Code → Shape → Option Stretch → Option (List Node) → Type 0
IsTapedNext n code sink None next = next ≡ None
IsTapedNext n code sink (Some stretch) next = (line : List Node) × (next ≡ Some line) × TellsFor n code sink stretch line

-- the instructions of a reset's lines
pub record TellsReset (n : ℕ) (code : Code) (sink : Shape) (taped : TapedReset) (reset : Reset) : Type 0 where
  pub condition : TellsLine n code taped.condition reset.condition
  pub init : TellsFor n code sink taped.init reset.init

-- the same of a register of this shape, if it has a reset
abbrev pub IsTapedReset : ℕ → Code → Shape → Option TapedReset → Option Reset → Type 0
IsTapedReset n code sink None reset = reset ≡ None
IsTapedReset n code sink (Some taped) reset = (own : Reset) × (reset ≡ Some own) × TellsReset n code sink taped own

-- a register of a tape has the clock, the reset and the connection of this one
pub record IsTapedRegister (n : ℕ) (code : Code) (taped : TapedRegister) (register : Register) : Type 0 where
  pub clock : taped.clock ≡ register.clock
  pub reset : IsTapedReset n code (shape register.ty) taped.reset register.reset
  pub next : IsTapedNext n code (shape register.ty) taped.next register.next

-- each of these registers of a tape is the circuit's at its place
abbrev pub AreTapedRegisters : FlatCircuit → Code → List TapedRegister → Type 0
AreTapedRegisters circuit code all =
    (r : ℕ) (taped : TapedRegister) (register : Register) → r < length all
    → IsTapedRegister (length circuit.signals) code (get_or all r taped) (get_or circuit.registers r register)

-- ---- tapes

-- The signals of a tape, in its order.
abbrev pub signals_of : Tape → List ℕ
signals_of tape = map (λ taped. taped.signal) tape.signals.items

-- each signal of a tape is one of the circuit's
abbrev pub AreTapedSignals : FlatCircuit → Tape → Type 0
AreTapedSignals circuit tape = All (IsTapedSignal circuit tape.code) tape.signals.items

-- A tape has signals of this circuit, and all of its registers.
pub record IsTape (circuit : FlatCircuit) (tape : Tape) : Type 0 where
  pub signals : AreTapedSignals circuit tape
  pub registers : AreTapedRegisters circuit tape.code tape.registers.items
  pub count : length tape.registers.items ≡ length circuit.registers

-- these are the numbers up to n, each at its place
pub record AreNumbers (n : ℕ) (numbers : List ℕ) : Type 0 where
  pub count : length numbers ≡ n
  pub each : (k : ℕ) → k < n → value_at numbers k ≡ k

-- a tape has all signals of this circuit, by their numbers
pub record IsWhole (circuit : FlatCircuit) (tape : Tape) : Type 0 where
  pub tape_is : IsTape circuit tape
  pub numbers : AreNumbers (length circuit.signals) (signals_of tape)

-- ---- running it

-- The instructions of a stretch compute this line, which can be evaluated.
pub record CanTell (code : Code) (stretch : Stretch) (cells : Celled) (line : List Node) : Type 0 where
  pub tells : TellsLine (length cells.values) code stretch line
  pub line_is : IsLine (HasValue cells.values) line
  pub room : length line ≤ cells.room

-- They compute it for its sink.
pub record CanConnect (code : Code) (stretch : Stretch) (cells : Celled) (line : List Node) : Type 0 where
  pub tells : TellsLine (length cells.values) code stretch line
  pub source : IsSource (HasValue cells.values) (small stretch.sink) line
  pub room : length line ≤ cells.room
