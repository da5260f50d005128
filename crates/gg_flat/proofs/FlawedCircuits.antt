-- Circuits with one flaw each are not well formed.
use Rattle.std.proofs.Common.{◌≡◌, ℕ, List, [], ◌∷◌, Result, Ok, Err, refl, ap, arith, lit<}
use Rattle.std.specs.Prelude.{Option, Some, None}
use Rattle.gg_bits.specs.declared.types.Bad.{Bad}
use Rattle.gg_bits.specs.declared.ops.Op1.TheVariants.{Not}
use Rattle.gg_bits.specs.declared.ops.Op2.TheVariants.{Add}
use Rattle.gg_bits.specs.declared.ops.OpN.TheVariants.{Bits}
use Rattle.gg_bits.specs.Shape.{Shape}
use Rattle.gg_flat.specs.declared.line.Node.{Node}
use Rattle.gg_flat.specs.declared.line.Op.TheVariants.{Ref, Literal, One, Two, Fix, Mux}
use Rattle.gg_flat.specs.declared.piece.Driver.{Driver}
use Rattle.gg_flat.specs.declared.piece.Driver.TheVariants.{Input, Held, ReadRegister, Computed}
use Rattle.gg_flat.specs.declared.piece.Register.{Register}
use Rattle.gg_flat.specs.declared.piece.Reset.{Reset}
use Rattle.gg_flat.specs.Circuit.{FlatCircuit}
use Rattle.gg_flat.specs.WellFormed.{IsWellFormed}
use Rattle.gg_flat.proofs.WorkedCircuits.{one, three, eight, node, value, counter, toggle}

-- ---- lists and names

-- the input isn't listed among the in-signals
unlisted : ¬ IsWellFormed (record counter { ins = [] })
unlisted formed = absurd (omega (arith, (formed.drivers 0 (lit< tt)).0))

-- a signal that isn't an input is listed among the in-signals
listed : ¬ IsWellFormed (record toggle { ins = 1 ∷ [] })
listed formed = held (formed.ins 0 (lit< tt)).1
  where
    held : Held 0 ≡ Input 0 → ⊥
    held is = cc

-- an out-signal past the last signal
no_output : ¬ IsWellFormed (record toggle { outs = 2 ∷ [] })
no_output formed = absurd (omega (arith, formed.outs 0 (lit< tt)))

-- two signals with the same path
doubled_path : ¬ IsWellFormed (record toggle { paths = (113 ∷ []) ∷ (113 ∷ []) ∷ [] })
doubled_path formed = formed.distinct 0 1 [] (lit< tt) (lit< tt) refl

-- a signal without a path
no_path : ¬ IsWellFormed (record toggle { paths = (113 ∷ []) ∷ [] })
no_path formed = absurd (omega (arith, formed.named))

-- ---- drivers of a circuit's only signal, which has three bits

abbrev lone : Driver → FlatCircuit
lone driver = record { paths = (113 ∷ []) ∷ []; signals = record { ty = three; driver = driver } ∷ []; registers = []; memories = []; ins = []; outs = []; clocks = 0 }

-- a signal holds a register that isn't there
no_register : ¬ IsWellFormed (lone (Held 0))
no_register formed = absurd (omega (arith, (formed.drivers 0 (lit< tt)).0))

-- a read register of a memory that isn't there
no_memory : ¬ IsWellFormed (lone (ReadRegister 0 0))
no_memory formed = absurd (omega (arith, (formed.drivers 0 (lit< tt)).0))

-- a line without nodes
no_node : ¬ IsWellFormed (lone (Computed []))
no_node formed = absurd (omega (arith, (formed.drivers 0 (lit< tt)).line.some))

-- a line that is wider than the signal
too_wide : ¬ IsWellFormed (lone (Computed (node eight (Literal (value 1)) ∷ [])))
too_wide formed = absurd (omega (arith, (formed.drivers 0 (lit< tt)).width))

-- ---- nodes

-- a literal that doesn't fit
no_fit : ¬ IsWellFormed (lone (Computed (node one (Literal (value 2)) ∷ [])))
no_fit formed = absurd (omega (arith, (formed.drivers 0 (lit< tt)).line.typed 0 (lit< tt)))

-- a reference to a signal that isn't there
no_signal : ¬ IsWellFormed (lone (Computed (node one (Ref 1) ∷ [])))
no_signal formed = absurd (omega (arith, ((formed.drivers 0 (lit< tt)).line.typed 0 (lit< tt)).0))

-- a reference of another width than the signal's
other_width : ¬ IsWellFormed (lone (Computed (node one (Ref 0) ∷ [])))
other_width formed = absurd (omega (arith, ap (λ (s : Shape). s.width) ((formed.drivers 0 (lit< tt)).line.typed 0 (lit< tt)).1))

-- an operand that isn't before its node
not_before : ¬ IsWellFormed (lone (Computed (node one (Literal (value 1)) ∷ node one (One Not 1) ∷ [])))
not_before formed = absurd (omega (arith, ((formed.drivers 0 (lit< tt)).line.typed 1 (lit< tt)).0))

-- the width of a result, 0 if there is none
abbrev width_of : Result Shape Bad → ℕ
width_of (Ok shape) = shape.width
width_of (Err bad) = 0

-- a sum in a node of another width
other_sum : ¬ IsWellFormed (lone (Computed (node one (Literal (value 1)) ∷ node one (Two Add 0 0) ∷ [])))
other_sum formed = absurd (omega (arith, ap width_of ((formed.drivers 0 (lit< tt)).line.typed 1 (lit< tt)).2))

-- a bit that isn't there
no_bit : ¬ IsWellFormed (lone (Computed (node one (Literal (value 1)) ∷ node one (Fix Bits 0 1 1) ∷ [])))
no_bit formed = absurd (omega (arith, ap width_of ((formed.drivers 0 (lit< tt)).line.typed 1 (lit< tt)).1))

-- a condition of three bits
wide_condition : ¬ IsWellFormed (lone (Computed (node three (Ref 0) ∷ node three (Mux 0 0 0) ∷ [])))
wide_condition formed = absurd (omega (arith, ap width_of ((formed.drivers 0 (lit< tt)).line.typed 1 (lit< tt)).3))

-- ---- registers

-- a register of one bit, which is connected to this line and has this reset
abbrev register : Option Reset → Option (List Node) → Register
register reset next = record { ty = one; reset = reset; next = next; clock = None }

abbrev held : Register → FlatCircuit
held register = record toggle { registers = register ∷ [] }

-- a connection that is wider than the register
wide_next : ¬ IsWellFormed (held (register None (Some (node eight (Literal (value 1)) ∷ []))))
wide_next formed = absurd (omega (arith, (formed.registers 0 (register None None) (lit< tt)).next.width))

-- a reset condition of three bits
wide_reset : ¬ IsWellFormed (held (register (Some (record { condition = node three (Literal (value 1)) ∷ []; init = node one (Literal (value 1)) ∷ [] })) None))
wide_reset formed = absurd (omega (arith, ap (λ (s : Shape). s.width) (formed.registers 0 (register None None) (lit< tt)).reset.condition.bit))

-- an init that is wider than the register
wide_init : ¬ IsWellFormed (held (register (Some (record { condition = node one (Literal (value 1)) ∷ []; init = node three (Literal (value 1)) ∷ [] })) None))
wide_init formed = absurd (omega (arith, (formed.registers 0 (register None None) (lit< tt)).reset.init.width))
