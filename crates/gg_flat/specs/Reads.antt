-- Combinational dependency, and combinational loops.
-- Source: FIRRTL Specification, "Combinational Loops", and "Memories" for reads of latency 0.
use Rattle.std.specs.Prelude.{◌≡◌, ◌≢◌, ◌⊎◌, ℕ, ◌<◌, List, [], ◌∷◌, Option, Some, None, length, map, Contains, AllPairs}
use Rattle.gg_flat.specs.declared.line.Node.{Node}
use Rattle.gg_flat.specs.declared.line.Op.TheVariants.{Ref}
use Rattle.gg_flat.specs.declared.piece.Driver.{Driver}
use Rattle.gg_flat.specs.declared.piece.Driver.TheVariants.{Input, Held, MemoryWord, ReadRegister, Computed}
use Rattle.gg_flat.specs.declared.piece.Register.{Register}
use Rattle.gg_flat.specs.declared.piece.Reset.{Reset}
use Rattle.gg_flat.specs.Circuit.{FlatCircuit, driver_at}

-- a line names a signal: one of its nodes is a reference to it
abbrev pub Names : List Node → ℕ → Type 0
Names nodes s = Contains (map (λ node. node.op) nodes) (Ref s)

-- A driver names a signal. A line names each signal that it refers to, and a read of latency 0 its address and its enable. The drivers of
-- an in-signal, a register's signal and a read register name none.
abbrev pub NamesSignal : Driver → ℕ → Type 0
NamesSignal (Input place) s = ⊥
NamesSignal (Held register) s = ⊥
NamesSignal (MemoryWord memory reader addr en) s = (addr ≡ s) ⊎ (en ≡ s)
NamesSignal (ReadRegister memory reader) s = ⊥
NamesSignal (Computed line) s = Names line s

-- a reset names a signal: in its condition or in its init
abbrev pub ResetNames : Option Reset → ℕ → Type 0
ResetNames None s = ⊥
ResetNames (Some reset) s = Names reset.condition s ⊎ Names reset.init s

-- a connection names a signal
abbrev pub NextNames : Option (List Node) → ℕ → Type 0
NextNames None s = ⊥
NextNames (Some line) s = Names line s

-- a register names a signal: in its reset or in its connection
abbrev pub RegisterNames : Register → ℕ → Type 0
RegisterNames register s = ResetNames register.reset s ⊎ NextNames register.next s

-- signal a reads signal b
pub record Reads (circuit : FlatCircuit) (a b : ℕ) : Type 0 where
  pub signal : a < length circuit.signals
  pub names : NamesSignal (driver_at circuit a) b

-- each signal of a list reads the next, and the last reads `first`
abbrev pub ReadsInTurn : FlatCircuit → ℕ → List ℕ → Type 0
ReadsInTurn circuit first [] = ⊥
ReadsInTurn circuit first (a ∷ []) = Reads circuit a first
ReadsInTurn circuit first (a ∷ b ∷ rest) = Reads circuit a b × ReadsInTurn circuit first (b ∷ rest)

-- A combinational loop: distinct signals. Each reads the next, and the last reads the first.
abbrev pub IsLoop : FlatCircuit → List ℕ → Type 0
IsLoop circuit [] = ⊥
IsLoop circuit (first ∷ rest) = AllPairs (λ a b. a ≢ b) (first ∷ rest) × ReadsInTurn circuit first (first ∷ rest)

-- a path of reads from signal a to signal b: each signal reads the next of the path, and the last is b
abbrev pub IsPath : FlatCircuit → ℕ → List ℕ → ℕ → Type 0
IsPath circuit a [] b = a ≡ b
IsPath circuit a (next ∷ path) b = Reads circuit a next × IsPath circuit next path b

-- Signal a reaches signal b: there is a path of reads from a to b. Each signal reaches itself.
pub record Reaches (circuit : FlatCircuit) (a b : ℕ) : Type 0 where
  pub path : List ℕ
  pub reads : IsPath circuit a path b
