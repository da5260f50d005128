-- Small circuits by hand, each with a list of its signals along which it is worked out.
use Rattle.std.proofs.Common.{ℕ, ◌≤◌, List, [], ◌∷◌, Some, None, lit≤}
use Rattle.gg_bits.specs.declared.types.Kind.TheVariants.{UInt}
use Rattle.gg_bits.specs.declared.types.Ty.{Ty}
use Rattle.gg_bits.specs.declared.types.Val.{Val}
use Rattle.gg_bits.specs.declared.ops.Op1.TheVariants.{Not}
use Rattle.gg_bits.specs.declared.ops.Op2.TheVariants.{Add}
use Rattle.gg_bits.specs.declared.ops.OpN.TheVariants.{Bits, Tail}
use Rattle.gg_flat.specs.declared.line.Node.{Node}
use Rattle.gg_flat.specs.declared.line.Op.{Op}
use Rattle.gg_flat.specs.declared.line.Op.TheVariants.{Ref, Literal, One, Two, Fix, Mux}
use Rattle.gg_flat.specs.declared.piece.Driver.TheVariants.{Input, Held, Computed}
use Rattle.gg_flat.specs.Circuit.{FlatCircuit}

-- a type UInt of this many bits
abbrev pub uint_type : (w : ℕ) → 1 ≤ w → w ≤ 128 → Ty
uint_type w positive bounded = record { kind = UInt; width = w; positive = positive; bounded = bounded }

abbrev pub one : Ty
one = uint_type 1 (lit≤ tt) (lit≤ tt)

abbrev pub three : Ty
three = uint_type 3 (lit≤ tt) (lit≤ tt)

abbrev pub eight : Ty
eight = uint_type 8 (lit≤ tt) (lit≤ tt)

abbrev pub nine : Ty
nine = uint_type 9 (lit≤ tt) (lit≤ tt)

abbrev pub node : Ty → Op → Node
node ty op = record { ty = ty; op = op }

abbrev pub value : ℕ → Val
value n = record { 0 = n }

-- `add(c, 1)`, where `c` is signal 2
abbrev pub next_count : List Node
next_count = node eight (Ref 2) ∷ node one (Literal (value 1)) ∷ node nine (Two Add 0 1) ∷ []

-- `mux(reset, 0, bits(n, 7, 0))`, where `reset` is signal 0 and `n` signal 3
abbrev pub next_or_zero : List Node
next_or_zero = node one (Ref 0) ∷ node eight (Literal (value 0)) ∷ node nine (Ref 3) ∷ node eight (Fix Bits 2 7 0) ∷ node eight (Mux 0 1 3) ∷ []

-- A counter with a synchronous reset, whose only out-signal is `out`: signal 0 is the input `reset`, 1 the output `out`, 2 the
-- register `c`, and 3 the node `n`, which is `add(c, 1)`.
abbrev pub counter : FlatCircuit
counter =
    record {
      paths = (114 ∷ []) ∷ (111 ∷ []) ∷ (99 ∷ []) ∷ (110 ∷ []) ∷ [];
      signals =
          record { ty = one; driver = Input 0 }
          ∷ record { ty = eight; driver = Computed (node eight (Ref 2) ∷ []) }
          ∷ record { ty = eight; driver = Held 0 }
          ∷ record { ty = nine; driver = Computed next_count }
          ∷ [];
      registers =
          record {
            ty = eight;
            reset = Some (record { condition = node one (Literal (value 0)) ∷ []; init = node eight (Ref 2) ∷ [] });
            next = Some next_or_zero;
            clock = None;
          }
          ∷ [];
      memories = [];
      ins = 0 ∷ [];
      outs = 1 ∷ [];
      clocks = 0;
    }

abbrev pub counter_order : List ℕ
counter_order = 0 ∷ 2 ∷ 3 ∷ 1 ∷ []

-- A register that takes its complement in each cycle: signal 0 is the output `q`, and 1 the register `r`.
abbrev pub toggle : FlatCircuit
toggle =
    record {
      paths = (113 ∷ []) ∷ (114 ∷ []) ∷ [];
      signals = record { ty = one; driver = Computed (node one (Ref 1) ∷ []) } ∷ record { ty = one; driver = Held 0 } ∷ [];
      registers = record { ty = one; reset = None; next = Some (node one (Ref 1) ∷ node one (One Not 0) ∷ []); clock = None } ∷ [];
      memories = [];
      ins = [];
      outs = 0 ∷ [];
      clocks = 0;
    }

abbrev pub toggle_order : List ℕ
toggle_order = 1 ∷ 0 ∷ []

-- A counter that an input sets to 5: signal 0 is the input `set`, 1 the register `c`, which is also the output. Its reset
-- has `set` as its condition, and as its init a literal of three bits.
abbrev pub loaded : FlatCircuit
loaded =
    record {
      paths = (115 ∷ []) ∷ (99 ∷ []) ∷ [];
      signals = record { ty = one; driver = Input 0 } ∷ record { ty = eight; driver = Held 0 } ∷ [];
      registers =
          record {
            ty = eight;
            reset = Some (record { condition = node one (Ref 0) ∷ []; init = node three (Literal (value 5)) ∷ [] });
            next = Some (node eight (Ref 1) ∷ node one (Literal (value 1)) ∷ node nine (Two Add 0 1) ∷ node eight (Fix Tail 2 1 0) ∷ []);
            clock = None;
          }
          ∷ [];
      memories = [];
      ins = 0 ∷ [];
      outs = 1 ∷ [];
      clocks = 0;
    }

abbrev pub loaded_order : List ℕ
loaded_order = 0 ∷ 1 ∷ []
