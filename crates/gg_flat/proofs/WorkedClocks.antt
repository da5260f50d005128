-- Clocks worked by hand: when a clock has an edge, and what a register and a memory become in a tick without one.
use Rattle.std.proofs.Common.{◌≡◌, ℕ, List, [], ◌∷◌, Some, None, Bool, true, false, map, refl, sym, ap, true≢false}
use Rattle.gg_flat.specs.declared.line.Op.TheVariants.{Ref}
use Rattle.gg_flat.specs.declared.memory.UnderWrite.TheVariants.{New}
use Rattle.gg_flat.specs.declared.memory.Latency.TheVariants.{One}
use Rattle.gg_flat.specs.declared.memory.Memory.{Memory}
use Rattle.gg_flat.specs.declared.piece.Register.{Register}
use Rattle.gg_flat.specs.Clock.{Ratio, edge, edges_at, ticks}
use Rattle.gg_flat.specs.Line.{value_at}
use Rattle.gg_flat.specs.Memory.{Bank, next_bank}
use Rattle.gg_flat.specs.inside.Served.{after_accesses}
use Rattle.gg_flat.specs.State.{next_registers}
use Rattle.gg_flat.proofs.WorkedCircuits.{eight, node}
use Rattle.gg_flat.proofs.WorkedForms.{apart}

-- an edge in each tick
abbrev pub every : Ratio
every = record { m = 1; d = 1 }

-- two edges in three base ticks: at 1, 2, 4, 5, ..
abbrev pub two_of_three : Ratio
two_of_three = record { m = 2; d = 3 }

edges-of-six : map (edge two_of_three) (0 ∷ 1 ∷ 2 ∷ 3 ∷ 4 ∷ 5 ∷ []) ≡ false ∷ true ∷ true ∷ false ∷ true ∷ true ∷ []
edges-of-six = refl

-- no edge in the first tick
near-first-edge : edge two_of_three 0 ≡ true → ⊥
near-first-edge e = true≢false (sym e)

every-tick : map (edge every) (0 ∷ 1 ∷ 2 ∷ []) ≡ true ∷ true ∷ true ∷ []
every-tick = refl

both-at : edges_at (two_of_three ∷ every ∷ []) 3 ≡ false ∷ true ∷ []
both-at = refl

-- a clock past the end, and no clock, have an edge
past-the-end : ticks (false ∷ []) (Some 1) ≡ true
past-the-end = refl

no-clock : (edges : List Bool) → ticks edges None ≡ true
no-clock edges = refl

no-edges : (clock : ℕ) → ticks [] (Some clock) ≡ true
no-edges clock = refl

-- two registers that take signal 0: the second follows clock 0
abbrev registers : List Register
registers = record { ty = eight; reset = None; next = Some (node eight (Ref 0) ∷ []); clock = None } ∷ record { ty = eight; reset = None; next = Some (node eight (Ref 0) ∷ []); clock = Some 0 } ∷ []

without-an-edge : next_registers (false ∷ []) (7 ∷ []) registers (1 ∷ 2 ∷ []) ≡ 7 ∷ 2 ∷ []
without-an-edge = refl

-- the second doesn't follow its clock without an edge
near-taken : next_registers (false ∷ []) (7 ∷ []) registers (1 ∷ 2 ∷ []) ≡ 7 ∷ 7 ∷ [] → ⊥
near-taken e = apart 2 7 refl (ap (λ l. value_at l 1) e)

with-an-edge : next_registers (true ∷ []) (7 ∷ []) registers (1 ∷ 2 ∷ []) ≡ 7 ∷ 7 ∷ []
with-an-edge = refl

-- a memory of two words: its reader follows clock 0, its writer clock 1; both name word 1, and the writer gives 5
abbrev memory : Memory
memory = record { word = eight; depth = 2; latency = One New; readers = record { addr = 0; en = 0; word = 2; clock = Some 0 } ∷ []; writers = record { addr = 0; en = 0; word = 1; mask = 0; clock = Some 1 } ∷ [] }

abbrev holding : Bank
holding = record { words = 8 ∷ 9 ∷ []; reads = 3 ∷ [] }

-- without an edge the words and the read register stay
neither : next_bank (false ∷ false ∷ []) (1 ∷ 5 ∷ []) memory holding ≡ holding
neither = refl

only-the-reader : next_bank (true ∷ false ∷ []) (1 ∷ 5 ∷ []) memory holding ≡ record { words = 8 ∷ 9 ∷ []; reads = 9 ∷ [] }
only-the-reader = refl

-- the writer doesn't write without an edge of its clock
near-written : next_bank (true ∷ false ∷ []) (1 ∷ 5 ∷ []) memory holding ≡ record { words = 8 ∷ 5 ∷ []; reads = 5 ∷ [] } → ⊥
near-written e = apart 9 5 refl (ap (λ bank. value_at bank.words 1) e)

only-the-writer : next_bank (false ∷ true ∷ []) (1 ∷ 5 ∷ []) memory holding ≡ record { words = 8 ∷ 5 ∷ []; reads = 3 ∷ [] }
only-the-writer = refl

-- the reader doesn't read without an edge of its clock
near-read : next_bank (false ∷ true ∷ []) (1 ∷ 5 ∷ []) memory holding ≡ record { words = 8 ∷ 5 ∷ []; reads = 5 ∷ [] } → ⊥
near-read e = apart 3 5 refl (ap (λ bank. value_at bank.reads 0) e)

both-new : next_bank [] (1 ∷ 5 ∷ []) memory holding ≡ record { words = 8 ∷ 5 ∷ []; reads = 5 ∷ [] }
both-new = refl

-- a port without an edge is served too, and its access changes nothing
served-writer : after_accesses (true ∷ false ∷ []) (1 ∷ 5 ∷ []) memory holding 1 ≡ holding
served-writer = refl

served-reader : after_accesses (true ∷ false ∷ []) (1 ∷ 5 ∷ []) memory holding 2 ≡ record { words = 8 ∷ 9 ∷ []; reads = 9 ∷ [] }
served-reader = refl
