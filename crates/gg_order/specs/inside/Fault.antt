-- What the fault of an order says.
-- Source: FIRRTL Specification, "Combinational Loops".
use Rattle.std.specs.Prelude.{ℕ, List, codes, ⊤}
use Rattle.gg_order.specs.declared.fault.OrderFault.{OrderFault}
use Rattle.gg_order.specs.declared.fault.OrderFault.TheVariants.{Loop, NoMemory}

-- if the fault is a loop, a fact about the loop
abbrev pub IfLoop : (List ℕ → Type 0) → OrderFault → Type 0
IfLoop P (Loop signals) = P signals
IfLoop P NoMemory = ⊤

-- how a value of `OrderFault` is printed
abbrev pub fault_text : OrderFault → List ℕ
fault_text (Loop signals) = codes "the circuit has a combinational loop"
fault_text NoMemory = codes "out of memory"
