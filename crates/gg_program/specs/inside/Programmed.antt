-- More on Programmed: what no promise of the program reaches.
-- Source: MEMOCODE 2009 (an output is ready when the inputs that it depends on are there).
use Rattle.std.specs.Prelude.{ℕ, List}
use Rattle.gg_flat.specs.Circuit.{FlatCircuit}
use Rattle.gg_flat.specs.WellFormed.{IsWellFormed}
use Rattle.gg_flat.specs.InOrder.{IsInOrder}
use Rattle.gg_tape.specs.declared.tape.Tape.{Tape}
use Rattle.gg_tape.specs.inside.Tape.{IsWhole}
use Rattle.gg_order.specs.needs.Needs.{AreNeedsOfOuts}

-- The circuit is well formed, and its signals are in an order of evaluation. The lists are the needs of its
-- out-signals, and the tape has its lines.
pub record IsProgram (circuit : FlatCircuit) (needs : List (List ℕ)) (tape : Tape) : Type 0 where
  pub formed : IsWellFormed circuit
  pub ordered : IsInOrder circuit
  pub needed : AreNeedsOfOuts circuit needs
  pub whole : IsWhole circuit tape
