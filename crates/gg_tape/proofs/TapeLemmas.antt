-- Tapes: what is added at the end changes nothing before it, and what a signal's origin gives.
use Rattle.std.proofs.Common.{◌≡◌, ℕ, ◌<◌, ◌≤◌, ◌+◌, List, [], ◌∷◌, ◌++◌, length, set, get_or, refl, sym, ◌∙◌, ap, subst, arith, below_more, ◌-◌}
use Rattle.std.specs.Prelude.{All}
use Rattle.std.proofs.lemmas.List.{length-append, length-map, get_or-map, get_or_at, get_or_append_left}
use Rattle.gg_bits.specs.Shape.{Shape, Fits}
use Rattle.gg_flat.specs.declared.piece.Signal.{Signal}
use Rattle.gg_flat.specs.declared.piece.Driver.{Driver}
use Rattle.gg_flat.specs.declared.piece.Driver.TheVariants.{Input, Held, MemoryWord, ReadRegister, Computed}
use Rattle.gg_bits.specs.Meaning.{extended}
use Rattle.gg_flat.specs.declared.line.Node.{Node}
use Rattle.gg_flat.specs.declared.line.Op.TheVariants.{Ref}
use Rattle.gg_flat.specs.inside.Line.{HasValue}
use Rattle.gg_flat.specs.Line.{shape_at, value_at, connected_value, HasShape, IsSource, shapes_of, op_at, op_value, line_shape, line_value}
use Rattle.gg_flat.specs.Memory.{read_word, bank_at}
use Rattle.gg_flat.specs.Circuit.{FlatCircuit, signal_shapes, driver_at}
use Rattle.gg_flat.specs.State.{State}
use Rattle.gg_flat.specs.Settled.{driver_value}
use Rattle.gg_flat.specs.inside.Settled.{HasSource}
use Rattle.gg_flat.proofs.TypedLemmas.{driver_value-fits}
use Rattle.gg_order.specs.runs.Room.{HasRoom, line_length}
use Rattle.gg_tape.specs.declared.code.Stretch.{Stretch}
use Rattle.gg_tape.specs.declared.code.Code.{Code}
use Rattle.gg_tape.specs.declared.taped.Origin.{Origin}
use Rattle.gg_tape.specs.declared.taped.Origin.TheVariants.{FromInput, FromRegister, FromMemory, FromReader, FromSignal, FromLine}
use Rattle.gg_tape.specs.declared.taped.TapedSignal.{TapedSignal}
use Rattle.gg_tape.specs.declared.tape.Tape.{Tape}
use Rattle.gg_tape.specs.inside.Instruction.{small}
use Rattle.gg_tape.specs.inside.Cells.{Celled}
use Rattle.gg_tape.specs.inside.Tape.{signals_of, Grows, IsOrigin, IsTapedSignal, IsTape, TellsFor, AreNumbers, CanConnect, IsReference}
use Rattle.gg_tape.proofs.CodeLemmas.{for-more, for-can, natural-same}

-- ---- more code

origin-more : (n : ℕ) (old new : Code) (sink : Shape) (origin : Origin) (driver : Driver) → Grows old new → IsOrigin n old sink origin driver → IsOrigin n new sink origin driver
origin-more n old new sink (FromInput place) driver grows is = is
origin-more n old new sink (FromRegister register) driver grows is = is
origin-more n old new sink (FromMemory memory addr en) driver grows is = is
origin-more n old new sink (FromReader memory reader) driver grows is = is
origin-more n old new sink (FromSignal s) driver grows is = is
origin-more n old new sink (FromLine stretch) driver grows is = (is.0, is.1, for-more n old new sink stretch is.0 grows is.2)

pub signals-more : (circuit : FlatCircuit) (old new : Code) (signals : List TapedSignal) → Grows old new → All (IsTapedSignal circuit old) signals → All (IsTapedSignal circuit new) signals
signals-more circuit old new signals grows are = λ k d lt.
    let taped = get_or signals k d in
    let is : IsTapedSignal circuit old taped = are k d lt in
    record { known = is.known; origin = origin-more (length circuit.signals) old new (shape_at (signal_shapes circuit) taped.signal) taped.origin (driver_at circuit taped.signal) grows is.origin }

-- ---- what an origin gives

-- A value is the driver's.
pub record IsValue (state : State) (inputs signals : List ℕ) (sink : Shape) (driver : Driver) (value : ℕ) : Type 0 where
  pub value_is : value ≡ driver_value state inputs signals sink driver
  pub fits : Fits sink value

value-as : (state : State) (inputs signals : List ℕ) (sink : Shape) (driver other : Driver) (value : ℕ) → driver ≡ other → value ≡ driver_value state inputs signals sink other → HasSource state inputs signals sink driver → IsValue state inputs signals sink driver value
value-as state inputs signals sink driver other value is gives has =
    let right : value ≡ driver_value state inputs signals sink driver = gives ∙ sym (ap (driver_value state inputs signals sink) is) in
    record { value_is = right; fits = subst (Fits sink) (sym right) (driver_value-fits state inputs signals sink driver has) }

-- an origin of this kind is of a driver of that kind
as-origin : (n : ℕ) (code : Code) (sink : Shape) (driver : Driver) (origin other : Origin) → origin ≡ other → IsOrigin n code sink origin driver → IsOrigin n code sink other driver
as-origin n code sink driver origin other at is = subst (λ (o : Origin). IsOrigin n code sink o driver) at is

pub input-gives : (state : State) (inputs signals : List ℕ) (n : ℕ) (code : Code) (sink : Shape) (driver : Driver) (origin : Origin) (place : ℕ) → IsOrigin n code sink origin driver → HasSource state inputs signals sink driver → origin ≡ FromInput place → (place < length inputs) × IsValue state inputs signals sink driver (value_at inputs place)
input-gives state inputs signals n code sink driver origin place from has at =
    let is = as-origin n code sink driver origin (FromInput place) at from in
    let known : HasSource state inputs signals sink (Input place) = subst (HasSource state inputs signals sink) is has in
    (known.0, value-as state inputs signals sink driver (Input place) (value_at inputs place) is refl has)

pub register-gives : (state : State) (inputs signals : List ℕ) (n : ℕ) (code : Code) (sink : Shape) (driver : Driver) (origin : Origin) (register : ℕ) → IsOrigin n code sink origin driver → HasSource state inputs signals sink driver → origin ≡ FromRegister register → (register < length state.registers) × IsValue state inputs signals sink driver (value_at state.registers register)
register-gives state inputs signals n code sink driver origin register from has at =
    let is = as-origin n code sink driver origin (FromRegister register) at from in
    let known : HasSource state inputs signals sink (Held register) = subst (HasSource state inputs signals sink) is has in
    (known.0, value-as state inputs signals sink driver (Held register) (value_at state.registers register) is refl has)

-- What the word of a memory requires, and that it is the driver's value.
pub record GivesWord (state : State) (inputs signals : List ℕ) (sink : Shape) (driver : Driver) (memory addr en : ℕ) : Type 0 where
  pub memory_known : memory < length state.banks
  pub addr_known : addr < length signals
  pub en_known : en < length signals
  pub gives : IsValue state inputs signals sink driver (read_word (bank_at state.banks memory).words (value_at signals addr) (value_at signals en))

pub memory-gives : (state : State) (inputs signals : List ℕ) (n : ℕ) (code : Code) (sink : Shape) (driver : Driver) (origin : Origin) (memory addr en : ℕ) → IsOrigin n code sink origin driver → HasSource state inputs signals sink driver → origin ≡ FromMemory memory addr en → GivesWord state inputs signals sink driver memory addr en
memory-gives state inputs signals n code sink driver origin memory addr en from has at =
    let is = as-origin n code sink driver origin (FromMemory memory addr en) at from in
    let known : HasSource state inputs signals sink (MemoryWord memory is.0 addr en) = subst (HasSource state inputs signals sink) is.1 has in
    record {
      memory_known = known.0;
      addr_known = known.1;
      en_known = known.2;
      gives = value-as state inputs signals sink driver (MemoryWord memory is.0 addr en) (read_word (bank_at state.banks memory).words (value_at signals addr) (value_at signals en)) is.1 refl has;
    }

-- The same of a read register.
pub record GivesRead (state : State) (inputs signals : List ℕ) (sink : Shape) (driver : Driver) (memory reader : ℕ) : Type 0 where
  pub memory_known : memory < length state.banks
  pub reader_known : reader < length (bank_at state.banks memory).reads
  pub gives : IsValue state inputs signals sink driver (value_at (bank_at state.banks memory).reads reader)

pub reader-gives : (state : State) (inputs signals : List ℕ) (n : ℕ) (code : Code) (sink : Shape) (driver : Driver) (origin : Origin) (memory reader : ℕ) → IsOrigin n code sink origin driver → HasSource state inputs signals sink driver → origin ≡ FromReader memory reader → GivesRead state inputs signals sink driver memory reader
reader-gives state inputs signals n code sink driver origin memory reader from has at =
    let is = as-origin n code sink driver origin (FromReader memory reader) at from in
    let known : HasSource state inputs signals sink (ReadRegister memory reader) = subst (HasSource state inputs signals sink) is has in
    record {
      memory_known = known.0;
      reader_known = known.1;
      gives = value-as state inputs signals sink driver (ReadRegister memory reader) (value_at (bank_at state.banks memory).reads reader) is refl has;
    }

-- the value of a reference that is the only node
lone-value : (signals : List ℕ) (line : List Node) (s : ℕ) → length line ≡ 1 → op_at line 0 ≡ Ref s → line_value signals line ≡ value_at signals s
lone-value signals [] s one op = absurd (omega (arith, one))
lone-value signals (node ∷ []) s one op = ap (op_value signals (shapes_of (node ∷ [])) []) op
lone-value signals (node ∷ next ∷ more) s one op = absurd (omega (arith, one))

pub signal-gives : (state : State) (inputs signals : List ℕ) (n : ℕ) (code : Code) (sink : Shape) (driver : Driver) (origin : Origin) (s : ℕ) → IsOrigin n code sink origin driver → HasSource state inputs signals sink driver → origin ≡ FromSignal s → (s < length signals) × IsValue state inputs signals sink driver (value_at signals s)
signal-gives state inputs signals n code sink driver origin s from has at =
    let is = as-origin n code sink driver origin (FromSignal s) at from in
    let line : List Node = is.0 in
    let lone : IsReference s line = is.2 in
    let source : IsSource (HasValue signals) sink line = subst (HasSource state inputs signals sink) is.1 has in
    let shape_is : line_shape line ≡ shape_at (shapes_of line) 0 = ap (λ k. shape_at (shapes_of line) (k - 1)) lone.alone in
    let known : HasValue signals s (shape_at (shapes_of line) 0) = subst (HasShape (HasValue signals) (shapes_of line) 0 (shape_at (shapes_of line) 0)) lone.op (source.line.typed 0 source.line.some) in
    let fits : Fits (line_shape line) (value_at signals s) = subst (λ (t : Shape). Fits t (value_at signals s)) (sym shape_is) known.1 in
    let gives : value_at signals s ≡ connected_value signals sink line =
    natural-same (line_shape line) sink.width (value_at signals s) lone.natural source.width fits
    ∙ ap (extended (line_shape line) sink.width) (sym (lone-value signals line s lone.alone lone.op)) in
    (known.0, value-as state inputs signals sink driver (Computed line) (value_at signals s) is.1 gives has)

-- What the instructions of a line require, and that its value is the driver's.
pub record GivesLine (state : State) (inputs : List ℕ) (cells : Celled) (code : Code) (sink : Shape) (driver : Driver) (stretch : Stretch) : Type 0 where
  pub line : List Node
  pub can : CanConnect code stretch cells line
  pub gives : (value : ℕ) → value ≡ connected_value cells.values (small stretch.sink) line → IsValue state inputs cells.values sink driver value

pub line-gives : (state : State) (inputs : List ℕ) (cells : Celled) (n : ℕ) (code : Code) (sink : Shape) (driver : Driver) (origin : Origin) (stretch : Stretch) → IsOrigin n code sink origin driver → HasSource state inputs cells.values sink driver → origin ≡ FromLine stretch → length cells.values ≡ n → line_length driver ≤ cells.room → GivesLine state inputs cells code sink driver stretch
line-gives state inputs cells n code sink driver origin stretch from has at count room =
    let is = as-origin n code sink driver origin (FromLine stretch) at from in
    let line = is.0 in
    let tells : TellsFor (length cells.values) code sink stretch line = subst (λ (k : ℕ). TellsFor k code sink stretch line) (sym count) is.2 in
    let known : HasSource state inputs cells.values sink (Computed line) = subst (HasSource state inputs cells.values sink) is.1 has in
    let can = for-can code sink stretch cells line tells known (subst (λ (d : Driver). line_length d ≤ cells.room) is.1 room) in
    record {
      line = line;
      can = can;
      gives = λ value gives. value-as state inputs cells.values sink driver (Computed line) value is.1 (gives ∙ ap (λ s. connected_value cells.values s line) tells.sink_is) has;
    }

-- ---- signals

-- there is room for each driver
some-signal : (signals : List Signal) (s : ℕ) → s < length signals → Signal
some-signal [] s lt = absurd (omega (arith, lt))
some-signal (signal ∷ signals) s lt = signal

pub room-at : (circuit : FlatCircuit) (places s : ℕ) → HasRoom circuit places → s < length circuit.signals → line_length (driver_at circuit s) ≤ places
room-at circuit places s room lt =
    let signal = some-signal circuit.signals s lt in
    subst (λ (d : Driver). line_length d ≤ places) (sym (get_or-map (λ (x : Signal). x.driver) circuit.signals s signal _ lt)) (room.drivers s signal lt)

pub signals-count : (tape : Tape) → length (signals_of tape) ≡ length tape.signals.items
signals-count tape = length-map tape.signals.items (λ (taped : TapedSignal). taped.signal)

-- the origin of the signal at a place
pub taped-at : (circuit : FlatCircuit) (tape : Tape) (place : ℕ) (taped : TapedSignal) → IsTape circuit tape → place < length (signals_of tape) → taped ≡ get_or tape.signals.items place taped → IsOrigin (length circuit.signals) tape.code (shape_at (signal_shapes circuit) (value_at (signals_of tape) place)) taped.origin (driver_at circuit (value_at (signals_of tape) place))
taped-at circuit tape place taped is lt read =
    let all = tape.signals.items in
    let within : place < length all = omega (arith, lt, signals-count tape) in
    let named : value_at (signals_of tape) place ≡ taped.signal = get_or-map (λ (x : TapedSignal). x.signal) all place taped 0 within ∙ ap (λ (x : TapedSignal). x.signal) (sym read) in
    let one : IsTapedSignal circuit tape.code taped = subst (λ (x : TapedSignal). IsTapedSignal circuit tape.code x) (sym read) (is.signals place taped within) in
    subst (λ (s : ℕ). IsOrigin (length circuit.signals) tape.code (shape_at (signal_shapes circuit) s) taped.origin (driver_at circuit s)) (sym named) one.origin

-- the cells with another value of a signal
abbrev pub with-value : Celled → ℕ → ℕ → Celled
with-value cells s v = record cells { values = set cells.values s v }

-- one number more
pub AreNumbers-more : (n : ℕ) (numbers : List ℕ) → AreNumbers n numbers → AreNumbers (n + 1) (numbers ++ n ∷ [])
AreNumbers-more n numbers are =
    record {
      count = length-append numbers (n ∷ []) ∙ ap (λ k. k + 1) are.count;
      each =
          below_more (λ k. value_at (numbers ++ n ∷ []) k ≡ k) n
          (λ k lt. get_or_append_left numbers (n ∷ []) 0 k (omega (arith, lt, are.count)) ∙ are.each k lt)
          (get_or_at numbers n [] 0 n are.count);
    }
