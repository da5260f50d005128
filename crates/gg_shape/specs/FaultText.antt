-- A fault of a circuit in words, as the program prints it: its code and its data, separated by blanks. Operations and
-- statements are named by the words that they are written with (FIRRTL Specification, "Primitive Operations",
-- "Statements").
use Rattle.std.specs.Prelude.{ℕ, List, ◌∷◌, ◌++◌, codes, decimal}
use Rattle.std.specs.List.{flat_map}
use Rattle.gg_bits.specs.Spelling.{text1, text2, text_const}
use Rattle.gg_ast.specs.declared.statement.Report.TheVariants as report
use Rattle.gg_shape.specs.declared.fault.Fault.{Fault}
use Rattle.gg_shape.specs.declared.fault.Fault.TheVariants.{MissingTop, RepeatedName, UnknownName, SecondConnection, Unconnected, ConnectedSource, ModuleRing, MemoryField, WrongKind, WrongWidth, WrongParameter, LiteralTooLarge, TooWide, WrongClock, OverLimit, Loop}
use Rattle.gg_shape.specs.declared.fault.MemoryKey.{MemoryKey}
use Rattle.gg_shape.specs.declared.fault.MemoryKey.TheVariants as keys
use Rattle.gg_shape.specs.declared.fault.Limit.{Limit}
use Rattle.gg_shape.specs.declared.fault.Limit.TheVariants as limits
use Rattle.gg_shape.specs.declared.fault.Word.{Word}
use Rattle.gg_shape.specs.declared.fault.Word.TheVariants as words

-- ---- words

-- an operation by its name, a connection as `connect`, any other statement by its first word
abbrev pub word_name : Word → List ℕ
word_name (words.Unary o) = text1 o
word_name (words.Binary o) = text2 o
word_name (words.Fixed o) = text_const o
word_name words.Mux = codes "mux"
word_name words.Connect = codes "connect"
word_name words.Register = codes "reg"
word_name words.Memory = codes "mem"
word_name words.Stop = codes "stop"
word_name (words.Report report.Printf) = codes "printf"
word_name (words.Report report.Assert) = codes "assert"
word_name (words.Report report.Assume) = codes "assume"
word_name (words.Report report.Cover) = codes "cover"

-- a field of a memory by its first word
abbrev pub key_name : MemoryKey → List ℕ
key_name keys.DataType = codes "data-type"
key_name keys.Depth = codes "depth"
key_name keys.ReadLatency = codes "read-latency"
key_name keys.WriteLatency = codes "write-latency"
key_name keys.ReadUnderWrite = codes "read-under-write"

-- the word for what is counted, in fault F15
abbrev pub limit_name : Limit → List ℕ
limit_name limits.Depth = codes "depth"
limit_name limits.Signals = codes "signals"
limit_name limits.Memory = codes "memory"
limit_name limits.Words = codes "words"
limit_name limits.Instances = codes "instances"

-- ---- faults

-- a code, and a line in decimal
abbrev pub on_line : List ℕ → ℕ → List ℕ
on_line code line = code ++ codes " line " ++ decimal line

-- texts, a blank before each
abbrev pub behind_blanks : List (List ℕ) → List ℕ
behind_blanks texts = flat_map (λ text. 32 ∷ text) texts

-- a fault: its code F1 to F16, its line where it has one, and what it is about
abbrev pub fault_text : Fault → List ℕ
fault_text (MissingTop name) = codes "F1 " ++ name
fault_text (RepeatedName line name) = on_line (codes "F2") line ++ 32 ∷ name
fault_text (UnknownName line name) = on_line (codes "F3") line ++ 32 ∷ name
fault_text (SecondConnection line name) = on_line (codes "F4") line ++ 32 ∷ name
fault_text (Unconnected line name) = on_line (codes "F5") line ++ 32 ∷ name
fault_text (ConnectedSource line name) = on_line (codes "F6") line ++ 32 ∷ name
fault_text (ModuleRing modules) = codes "F7" ++ behind_blanks modules
fault_text (MemoryField line key) = on_line (codes "F8") line ++ 32 ∷ key_name key
fault_text (WrongKind line word) = on_line (codes "F9") line ++ 32 ∷ word_name word
fault_text (WrongWidth line width) = on_line (codes "F10") line ++ 32 ∷ decimal width
fault_text (WrongParameter line word) = on_line (codes "F11") line ++ 32 ∷ word_name word
fault_text (LiteralTooLarge line) = on_line (codes "F12") line
fault_text (TooWide line source sink) = on_line (codes "F13") line ++ 32 ∷ (decimal source ++ 32 ∷ decimal sink)
fault_text (WrongClock line name) = on_line (codes "F14") line ++ 32 ∷ name
fault_text (OverLimit limit count) = codes "F15 " ++ limit_name limit ++ 32 ∷ decimal count
fault_text (Loop paths) = codes "F16" ++ behind_blanks paths
