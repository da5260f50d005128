-- How a command has ended when its function returns: done, or stopped before its whole text was written.
-- Source: this program's own.
use Rattle.std.specs.Prelude.{◌≡◌, ℕ, List, Option, Result, Ok, Err, ⊤}
use Rattle.std.specs.Io.KnownBytes.{append_known}
use Rattle.gg_io.specs.Count.{Rose}
use Rattle.gg_io.specs.declared.output.Sink
use Rattle.gg_io.specs.Said.{Said, cannot_write, nothing, out_of_memory}
use Rattle.gg_io.specs.Order.{File, Order, IsRefused, StopsAt}
use Rattle.gg_io.specs.Ends.{Loads, Puts, StandsFront, Ends}
use Rattle.gg_io.specs.declared.endings.Ending.{Ending}
use Rattle.gg_io.specs.declared.endings.Ending.TheVariants.{Refused, Unwritten, NoMemory}

-- `NoMemory`, or a refusal with this property of its report
abbrev pub IfRefused : (Said → Type 0) → Ending → Type 0
IfRefused P (Refused said) = P said
IfRefused P Unwritten = ⊥
IfRefused P NoMemory = ⊤

-- what is reported for the ending
abbrev pub said_of : Ending → Said
said_of (Refused said) = said
said_of Unwritten = cannot_write
said_of NoMemory = out_of_memory

-- what is reported for a command that ended so; if it is done, status 0 and no line
abbrev pub said_by : {T : Type 0} → Result T Ending → Said
said_by (Ok done) = nothing
said_by (Err ending) = said_of ending

-- The part of a text that was written on an output: all of the text, or a first part if the writing stopped. `failed` means that a put
-- failed. Once the text is being written nothing is refused.
abbrev pub Prints : {T : Type 0} → (before now : Option (List ℕ)) (failed : Type 0) (text : List ℕ) → Result T Ending → Type 0
Prints before now failed text (Ok done) = now ≡ append_known before text
Prints before now failed text (Err (Refused said)) = ⊥
Prints before now failed text (Err Unwritten) = failed × StandsFront before now text
Prints before now failed text (Err NoMemory) = StandsFront before now text

-- `Prints` for an output before and after
abbrev pub PrintsOn : {K T : Type 0} → Sink.Ghosts K → (out out' : K) (text : List ℕ) → Result T Ending → Type 0
PrintsOn sink out out' text result = Prints (sink.written out) (sink.written out') (Rose (sink.faults out) (sink.faults out')) text result

-- Something was accepted, and a text of this kind was printed. Or it was refused, and what is reported has this property; or an allocation
-- failed. In both of these cases nothing was written.
pub data PrintsOrStops {T : Type 0} (out : Puts) (IsText : List ℕ → Type 0) (IsReport : Said → Type 0) (result : Result T Ending) : Type 0 where
  PrintsText : (text : List ℕ) (is : IsText text) (prints : Prints out.before out.after out.failed text result) → PrintsOrStops out IsText IsReport result
  Stops : (ending : Ending) (ends : result ≡ Err ending) (says : IfRefused IsReport ending) (none : out.after ≡ out.before) → PrintsOrStops out IsText IsReport result
  Wants : (ends : result ≡ Err NoMemory) (none : out.after ≡ out.before) → PrintsOrStops out IsText IsReport result

-- this is reported for a file
abbrev pub IsRefusedBy : Loads → File → Said → Type 0
IsRefusedBy loads file said = IsRefused loads.files loads.lost loads.cut file said

-- this is reported for a file of an order
abbrev pub StopsBy : Loads → Order → Said → Type 0
StopsBy loads order said = StopsAt loads.files loads.lost loads.cut order said

-- A command with this order has ended so, with these loads and puts, and wrote its text after what was written before.
pub record EndedOn {T : Type 0} (loads : Loads) (out : Puts) (order : Order) (result : Result T Ending) : Type 0 where
  pub text : List ℕ
  pub written : out.after ≡ append_known out.before text
  pub ends : Ends loads out.failed order (said_by result).status text (said_by result).line
