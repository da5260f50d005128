-- What a walk's fault says.
-- Source: this program's own.
use Rattle.std.specs.Prelude.{ℕ, List, codes}
use Rattle.gg_graph.specs.declared.fault.WalkFault.{WalkFault}
use Rattle.gg_graph.specs.declared.fault.WalkFault.TheVariants.{Ring, NoMemory}

-- if the fault is a ring, this fact holds of the ring
abbrev pub IfRing : (List ℕ → Type 0) → WalkFault → Type 0
IfRing P (Ring ring) = P ring.items
IfRing P NoMemory = Unit {0}

-- how a value of `WalkFault` is printed
abbrev pub fault_text : WalkFault → List ℕ
fault_text (Ring ring) = codes "the graph has a ring"
fault_text NoMemory = codes "out of memory"
