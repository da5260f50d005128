-- Circuits with memories by hand, each with a list of its signals along which it is worked out, and what they give.
use Rattle.std.proofs.Common.{◌≡◌, ℕ, List, [], ◌∷◌, None, refl, lit≤}
use Rattle.gg_bits.specs.declared.types.Ty.{Ty}
use Rattle.gg_bits.specs.declared.ops.Op1.TheVariants.{Not}
use Rattle.gg_bits.specs.declared.ops.OpN.TheVariants.{Bits}
use Rattle.gg_flat.specs.declared.line.Op.TheVariants.{Ref, Literal, One, Fix}
use Rattle.gg_flat.specs.declared.memory.UnderWrite.{UnderWrite}
use Rattle.gg_flat.specs.declared.memory.UnderWrite.TheVariants.{Old, New, Undefined}
use Rattle.gg_flat.specs.declared.memory.Latency.{Latency}
use Rattle.gg_flat.specs.declared.memory.Latency.TheVariants.{Zero, One as Late}
use Rattle.gg_flat.specs.declared.memory.Reader.{Reader}
use Rattle.gg_flat.specs.declared.memory.Writer.{Writer}
use Rattle.gg_flat.specs.declared.memory.Memory.{Memory}
use Rattle.gg_flat.specs.declared.piece.Driver.{Driver}
use Rattle.gg_flat.specs.declared.piece.Driver.TheVariants.{Input, MemoryWord, ReadRegister, Computed}
use Rattle.gg_flat.specs.declared.piece.Signal.{Signal}
use Rattle.gg_flat.specs.Circuit.{FlatCircuit}
use Rattle.gg_flat.specs.Memory.{Bank, address_width}
use Rattle.gg_flat.specs.Served.{ByReader, ByWriter}
use Rattle.gg_flat.specs.inside.Served.{due_list, after_accesses}
use Rattle.gg_flat.specs.Run.{Start, column}
use Rattle.gg_flat.specs.inside.Along.{rows_along}
use Rattle.gg_flat.specs.Along.{rows_from}
use Rattle.gg_flat.proofs.WorkedCircuits.{uint_type, one, eight, node, value}

-- ---- addresses

widths : (address_width 1 ∷ address_width 2 ∷ address_width 3 ∷ address_width 4 ∷ address_width 5 ∷ address_width 65536 ∷ address_width 65537 ∷ address_width 4294967295 ∷ []) ≡ (1 ∷ 1 ∷ 2 ∷ 2 ∷ 3 ∷ 16 ∷ 17 ∷ 32 ∷ [])
widths = refl

-- ---- two readers and two writers at one address

abbrev pub two : Ty
two = uint_type 2 (lit≤ tt) (lit≤ tt)

abbrev pub signal : Ty → Driver → Signal
signal ty driver = record { ty = ty; driver = driver }

-- a signal that is a copy of another
abbrev pub copy : Ty → ℕ → Signal
copy ty s = signal ty (Computed (node ty (Ref s) ∷ []))

-- a signal of one bit that is always 1
abbrev pub high : Signal
high = signal one (Computed (node one (Literal (value 1)) ∷ []))

-- Signals 0 and 1 are the inputs `a` and `v`, 2 and 3 the outputs `o0` and `o1`; then come the fields `addr`, `en` and
-- `data` of the readers `r` and `s`, and `addr`, `en`, `data` and `mask` of the writers `w` and `x`. `s` is enabled by the
-- last bit of `v`; `w` writes `v`, and `x` its complement.
abbrev pub ports : FlatCircuit
ports =
    record {
      paths = (97 ∷ []) ∷ (118 ∷ []) ∷ (111 ∷ 48 ∷ []) ∷ (111 ∷ 49 ∷ [])
          ∷ (114 ∷ 97 ∷ []) ∷ (114 ∷ 101 ∷ []) ∷ (114 ∷ 100 ∷ []) ∷ (115 ∷ 97 ∷ []) ∷ (115 ∷ 101 ∷ []) ∷ (115 ∷ 100 ∷ [])
          ∷ (119 ∷ 97 ∷ []) ∷ (119 ∷ 101 ∷ []) ∷ (119 ∷ 100 ∷ []) ∷ (119 ∷ 109 ∷ []) ∷ (120 ∷ 97 ∷ []) ∷ (120 ∷ 101 ∷ []) ∷ (120 ∷ 100 ∷ []) ∷ (120 ∷ 109 ∷ []) ∷ [];
      signals =
          signal two (Input 0) ∷ signal eight (Input 1) ∷ copy eight 6 ∷ copy eight 9
          ∷ copy two 0 ∷ high ∷ signal eight (MemoryWord 0 0 4 5)
          ∷ copy two 0 ∷ signal one (Computed (node eight (Ref 1) ∷ node one (Fix Bits 0 0 0) ∷ [])) ∷ signal eight (MemoryWord 0 1 7 8)
          ∷ copy two 0 ∷ high ∷ copy eight 1 ∷ high
          ∷ copy two 0 ∷ high ∷ signal eight (Computed (node eight (Ref 1) ∷ node eight (One Not 0) ∷ [])) ∷ high ∷ [];
      registers = [];
      memories =
          record {
            word = eight;
            depth = 3;
            latency = Zero;
            readers = record { addr = 4; en = 5; word = 6; clock = None } ∷ record { addr = 7; en = 8; word = 9; clock = None } ∷ [];
            writers = record { addr = 10; en = 11; word = 12; mask = 13; clock = None } ∷ record { addr = 14; en = 15; word = 16; mask = 17; clock = None } ∷ [];
          }
          ∷ [];
      ins = 0 ∷ 1 ∷ [];
      outs = 2 ∷ 3 ∷ [];
      clocks = 0;
    }

abbrev pub ports_order : List ℕ
ports_order = 0 ∷ 1 ∷ 4 ∷ 5 ∷ 6 ∷ 7 ∷ 8 ∷ 9 ∷ 10 ∷ 11 ∷ 12 ∷ 13 ∷ 14 ∷ 15 ∷ 16 ∷ 17 ∷ 2 ∷ 3 ∷ []

-- `a` is 1, 1, 3, 1, and `v` is 0f, 21, 55, 00
abbrev pub ports_inputs : List (List ℕ)
ports_inputs = (1 ∷ 1 ∷ 3 ∷ 1 ∷ []) ∷ (15 ∷ 33 ∷ 85 ∷ 0 ∷ []) ∷ []

-- `o0` is 00, f0, 00, de: the later writer wins, and nothing is read or written past the depth
ports-o0 : column (rows_along ports ports_order ports_inputs 4) 2 ≡ 0 ∷ 240 ∷ 0 ∷ 222 ∷ []
ports-o0 = refl

-- `o1` is 00, f0, 00, 00: it reads when `v` is odd
ports-o1 : column (rows_along ports ports_order ports_inputs 4) 3 ≡ 0 ∷ 240 ∷ 0 ∷ 0 ∷ []
ports-o1 = refl

-- ---- a late reader

-- Signals 0, 1 and 2 are the inputs `a`, `e` and `v`, and 3 the output `o`; then come the fields `addr`, `en` and `data` of
-- the reader, and `addr`, `en`, `data` and `mask` of the writer.
abbrev pub late : UnderWrite → FlatCircuit
late under =
    record {
      paths = (97 ∷ []) ∷ (101 ∷ []) ∷ (118 ∷ []) ∷ (111 ∷ [])
          ∷ (114 ∷ 97 ∷ []) ∷ (114 ∷ 101 ∷ []) ∷ (114 ∷ 100 ∷ []) ∷ (119 ∷ 97 ∷ []) ∷ (119 ∷ 101 ∷ []) ∷ (119 ∷ 100 ∷ []) ∷ (119 ∷ 109 ∷ []) ∷ [];
      signals =
          signal two (Input 0) ∷ signal one (Input 1) ∷ signal eight (Input 2) ∷ copy eight 6
          ∷ copy two 0 ∷ copy one 1 ∷ signal eight (ReadRegister 0 0) ∷ copy two 0 ∷ high ∷ copy eight 2 ∷ high ∷ [];
      registers = [];
      memories =
          record {
            word = eight;
            depth = 3;
            latency = Late under;
            readers = record { addr = 4; en = 5; word = 6; clock = None } ∷ [];
            writers = record { addr = 7; en = 8; word = 9; mask = 10; clock = None } ∷ [];
          }
          ∷ [];
      ins = 0 ∷ 1 ∷ 2 ∷ [];
      outs = 3 ∷ [];
      clocks = 0;
    }

abbrev pub late_order : List ℕ
late_order = 0 ∷ 1 ∷ 2 ∷ 4 ∷ 5 ∷ 6 ∷ 7 ∷ 8 ∷ 9 ∷ 10 ∷ 3 ∷ []

-- `a` is 1, 1, 3, 1, 0, `e` is 1, 0, 1, 1, 0, and `v` is 11, 22, 33, 44, 00
abbrev pub late_inputs : List (List ℕ)
late_inputs = (1 ∷ 1 ∷ 3 ∷ 1 ∷ 0 ∷ []) ∷ (1 ∷ 0 ∷ 1 ∷ 1 ∷ 0 ∷ []) ∷ (17 ∷ 34 ∷ 51 ∷ 68 ∷ 0 ∷ []) ∷ []

-- if it reads after the writes, `o` is 00, 11, 00, 00, 44
late-new : column (rows_along (late New) late_order late_inputs 5) 3 ≡ 0 ∷ 17 ∷ 0 ∷ 0 ∷ 68 ∷ []
late-new = refl

-- if it reads before them, `o` is 00, 00, 00, 00, 22
late-old : column (rows_along (late Old) late_order late_inputs 5) 3 ≡ 0 ∷ 0 ∷ 0 ∷ 0 ∷ 34 ∷ []
late-old = refl

late-undefined : column (rows_along (late Undefined) late_order late_inputs 5) 3 ≡ 0 ∷ 0 ∷ 0 ∷ 0 ∷ 34 ∷ []
late-undefined = refl

-- from cycle 3 on, with a word of 22 at address 1, `o` is 00 and then 22
abbrev pub from_three : Start
from_three = record { cycle = 3; state = record { registers = []; banks = record { words = 0 ∷ 34 ∷ 0 ∷ []; reads = 0 ∷ [] } ∷ [] }; ratios = [] }

late-from_three : column (rows_from (late Old) late_order from_three late_inputs 2) 3 ≡ 0 ∷ 34 ∷ []
late-from_three = refl

-- ---- one access after another

-- a memory whose fields are signals 0 to 6: a reader's `addr`, `en` and `data`, and a writer's `addr`, `en`, `data` and `mask`
abbrev pub alone : UnderWrite → Memory
alone under =
    record {
      word = eight;
      depth = 2;
      latency = Late under;
      readers = record { addr = 0; en = 1; word = 2; clock = None } ∷ [];
      writers = record { addr = 3; en = 4; word = 5; mask = 6; clock = None } ∷ [];
    }

abbrev pub holding : Bank
holding = record { words = 7 ∷ 8 ∷ []; reads = 9 ∷ [] }

-- the reader and the writer are at address 1, and the writer writes 5
abbrev pub given : List ℕ
given = 1 ∷ 1 ∷ 0 ∷ 1 ∷ 1 ∷ 5 ∷ 1 ∷ []

-- before any access
served-none : after_accesses [] given (alone Old) holding 0 ≡ holding
served-none = refl

-- the reader comes before the writer, and gets the old word
served-old : after_accesses [] given (alone Old) holding 1 ≡ record { words = 7 ∷ 8 ∷ []; reads = 8 ∷ [] }
served-old = refl

-- the writer comes first, and the reader gets the new word
served-new : after_accesses [] given (alone New) holding 1 ≡ record { words = 7 ∷ 5 ∷ []; reads = 9 ∷ [] }
served-new = refl

served-both : after_accesses [] given (alone New) holding 2 ≡ record { words = 7 ∷ 5 ∷ []; reads = 5 ∷ [] }
served-both = refl

-- ---- the due list of two readers and two writers

abbrev r : Reader
r = record { addr = 0; en = 1; word = 2; clock = None }

abbrev s : Reader
s = record { addr = 3; en = 4; word = 5; clock = None }

abbrev w : Writer
w = record { addr = 6; en = 7; word = 8; mask = 9; clock = None }

abbrev x : Writer
x = record { addr = 10; en = 11; word = 12; mask = 13; clock = None }

abbrev four_ports : Latency → Memory
four_ports latency = record { word = eight; depth = 2; latency = latency; readers = r ∷ s ∷ []; writers = w ∷ x ∷ [] }

-- a reader of latency 0 has no access of its own
due-zero : due_list (four_ports Zero) ≡ ByWriter 0 w ∷ ByWriter 1 x ∷ []
due-zero = refl

due-old : due_list (four_ports (Late Old)) ≡ ByReader 0 r ∷ ByReader 1 s ∷ ByWriter 0 w ∷ ByWriter 1 x ∷ []
due-old = refl

due-undefined : due_list (four_ports (Late Undefined)) ≡ ByReader 0 r ∷ ByReader 1 s ∷ ByWriter 0 w ∷ ByWriter 1 x ∷ []
due-undefined = refl

due-new : due_list (four_ports (Late New)) ≡ ByWriter 0 w ∷ ByWriter 1 x ∷ ByReader 0 r ∷ ByReader 1 s ∷ []
due-new = refl

-- all are at address 1; `w` writes 5, and `x` 6
abbrev four_given : List ℕ
four_given = 1 ∷ 1 ∷ 0 ∷ 1 ∷ 1 ∷ 0 ∷ 1 ∷ 1 ∷ 5 ∷ 1 ∷ 1 ∷ 1 ∷ 6 ∷ 1 ∷ []

abbrev four_holding : Bank
four_holding = record { words = 7 ∷ 8 ∷ []; reads = 9 ∷ 9 ∷ [] }

-- between the writers the readers have the old word, and the memory has the word of `w`
between-old : after_accesses [] four_given (four_ports (Late Old)) four_holding 3 ≡ record { words = 7 ∷ 5 ∷ []; reads = 8 ∷ 8 ∷ [] }
between-old = refl

-- if they read new words, they haven't read yet
between-new : after_accesses [] four_given (four_ports (Late New)) four_holding 1 ≡ record { words = 7 ∷ 5 ∷ []; reads = 9 ∷ 9 ∷ [] }
between-new = refl

-- at the end the memory has the word of `x`, and both readers have read it
ended-new : after_accesses [] four_given (four_ports (Late New)) four_holding 4 ≡ record { words = 7 ∷ 6 ∷ []; reads = 6 ∷ 6 ∷ [] }
ended-new = refl
