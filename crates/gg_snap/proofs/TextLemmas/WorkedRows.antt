-- A circuit with values of each kind, its table, and the text of a state, by hand.
use Rattle.std.proofs.Common.{◌≡◌, [], ◌∷◌, ◌++◌, None, Some, codes, decimal, map, refl, lit≤}
use Rattle.std.proofs.lemmas.Fmt.{decimal_digit}
use Rattle.gg_bits.specs.declared.types.Ty.{Ty}
use Rattle.gg_flat.specs.declared.memory.Latency.TheVariants.{One}
use Rattle.gg_flat.specs.declared.memory.UnderWrite.TheVariants.{Undefined}
use Rattle.gg_flat.specs.declared.piece.Driver.TheVariants.{Input, Held, ReadRegister}
use Rattle.gg_flat.specs.declared.piece.Register.{Register as register}
use Rattle.gg_flat.specs.Circuit.{FlatCircuit}
use Rattle.gg_flat.specs.State.{State}
use Rattle.gg_flat_tree.specs.Tree.{InstanceTree}
use Rattle.gg_flat.proofs.WorkedCircuits.{eight, one}
use Rattle.gg_flat.proofs.WorkedMemories.{high, signal, two}
use Rattle.gg_snap.specs.declared.text.row.At.TheVariants.{Register, Read, Words}
use Rattle.gg_snap.specs.declared.text.row.Kind.TheVariants as kind
use Rattle.gg_snap.specs.declared.text.row.Row.{Row}
use Rattle.gg_snap.specs.text.Lines.{snap_text, value_lines}
use Rattle.gg_snap.specs.text.Standing.{pieces}
use Rattle.gg_snap.specs.text.Table.{channel_of, rows_of}

abbrev plain : Ty → register
plain ty = record { ty = ty; reset = None; next = None; clock = None }

-- Signals: 0 the register `d`, 1 the register of the pipe on `x.k`, 2 the register `c`, 3 to 5 the fields `addr`, `en` and `data` of
-- the reader `r` of a memory `m` of three words.
abbrev circuit : FlatCircuit
circuit =
    record {
      paths = codes "d" ∷ codes "pipe:x.k" ∷ codes "c" ∷ codes "m.r.addr" ∷ codes "m.r.en" ∷ codes "m.r.data" ∷ [];
      signals = signal eight (Held 0) ∷ signal two (Held 1) ∷ signal one (Held 2) ∷ signal two (Input 0) ∷ high ∷ signal eight (ReadRegister 0 0) ∷ [];
      registers = plain eight ∷ plain two ∷ plain one ∷ [];
      memories = record { word = eight; depth = 3; latency = One Undefined; readers = record { addr = 3; en = 4; word = 5; clock = None } ∷ []; writers = [] } ∷ [];
      ins = 3 ∷ [];
      outs = [];
      clocks = 0;
    }

-- of the tree only the memory counts here
abbrev tree : InstanceTree
tree =
    record {
      paths = [];
      instances = [];
      memory_paths = codes "m" ∷ [];
      memories = record { instance = 0; memory = 0; ports = codes "r" ∷ []; clocks = None ∷ [] } ∷ [];
      clocks = [];
      register_clocks = [];
      stops = [];
    }

abbrev row_c : Row
row_c = record { kind = kind.Register; path = codes "c"; width = 1; count = 1; at = Register 2 }

abbrev row_d : Row
row_d = record { kind = kind.Register; path = codes "d"; width = 8; count = 1; at = Register 0 }

abbrev row_read : Row
row_read = record { kind = kind.Read; path = codes "m.r.data"; width = 8; count = 1; at = Read 0 0 }

abbrev row_pipe : Row
row_pipe = record { kind = kind.Pipe; path = codes "x.k"; width = 2; count = 1; at = Register 1 }

abbrev row_memory : Row
row_memory = record { kind = kind.Memory; path = codes "m"; width = 8; count = 3; at = Words 0 }

-- registers by path, and that of the pipe isn't among them
table : rows_of circuit tree ≡ row_c ∷ row_d ∷ row_read ∷ row_pipe ∷ row_memory ∷ []
table = refl

-- no other path is that of a pipe
channels : map channel_of (codes "pipe:x.k" ∷ codes "pipe:" ∷ codes "pipe" ∷ codes "x.pipe:k" ∷ []) ≡ Some (codes "x.k") ∷ Some [] ∷ None ∷ None ∷ []
channels = refl

abbrev state : State
state = record { registers = 31 ∷ 2 ∷ 1 ∷ []; banks = record { words = 0 ∷ 34 ∷ 255 ∷ []; reads = 7 ∷ [] } ∷ [] }

three_is : decimal 3 ≡ codes "3"
three_is = decimal_digit 3 (lit≤ tt)

one_is : decimal 1 ≡ codes "1"
one_is = decimal_digit 1 (lit≤ tt)

two_is : decimal 2 ≡ codes "2"
two_is = decimal_digit 2 (lit≤ tt)

-- each value that isn't 0 has a line
written : snap_text (rows_of circuit tree) 3 state
    ≡ codes "golden snapshot 1\ncycle 3\nreg c 1\nreg d 1f\nread m.r.data 07\npipe x.k 2\nmem m 1 22\nmem m 2 ff\n"
written = rw (one_is, two_is, three_is) refl

-- zeros have none
empty : value_lines (record { registers = 0 ∷ 0 ∷ 0 ∷ []; banks = record { words = 0 ∷ 0 ∷ 0 ∷ []; reads = 0 ∷ [] } ∷ [] }) (rows_of circuit tree) ≡ []
empty = refl

-- the lines of texts: the last one may have no line feed, and a CR is a byte like others
cut : map pieces (codes "" ∷ codes "a" ∷ codes "a\n" ∷ codes "a\n\nb" ∷ (codes "a" ++ 13 ∷ 10 ∷ []) ∷ [])
    ≡ [] ∷ (codes "a" ∷ []) ∷ (codes "a\n" ∷ []) ∷ (codes "a\n" ∷ codes "\n" ∷ codes "b" ∷ []) ∷ ((codes "a" ++ 13 ∷ 10 ∷ []) ∷ []) ∷ []
cut = refl
