-- More on Bridges: what no promise of the program reaches.
-- Source: ICCAD 2019 (bridges: models in the host's own code that stand at a target's ports); the numbers of faults and their order
-- are this program's own.
use Rattle.std.specs.Prelude.{◌≡◌, ℕ, All, ◌<◌, List, Bool, length}
use Rattle.gg_flat.specs.Circuit.{FlatCircuit}
use Rattle.gg_cut_plan.specs.inside.Listed.{AreMarks}

-- ---- all entries

-- These are the top's inputs, and outs of it, each with marks.
pub record AreSides (circuit : FlatCircuit) (outs : List ℕ) (out_marks : List Bool) (ins : List ℕ) (in_marks : List Bool) : Type 0 where
  pub known_outs : All (λ s. s < length circuit.signals) outs
  pub marked_outs : AreMarks outs out_marks
  pub many_outs : length out_marks ≡ length circuit.signals
  pub inputs : ins ≡ circuit.ins
  pub known_ins : All (λ s. s < length circuit.signals) ins
  pub marked_ins : AreMarks ins in_marks
  pub many_ins : length in_marks ≡ length circuit.signals
