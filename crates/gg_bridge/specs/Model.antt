-- What a flat circuit must be to be a bridge's model outside of another circuit.
-- Source: ICCAD 2019 (bridges: models in the host's own code that stand at a target's ports); MEMOCODE 2009 (a node whose
-- outputs need no input).
use Rattle.std.specs.Prelude.{◌≡◌, ℕ, List, Contains}
use Rattle.gg_flat.specs.Circuit.{FlatCircuit}
use Rattle.gg_flat.specs.Reads.{Reaches}
use Rattle.gg_flat.specs.Order.{IsOrder}
use Rattle.gg_flat.specs.WellFormed.{IsWellFormed}

-- A flat circuit may be a model: it is well formed, its signals have an order of evaluation (so that it has no combinational loop), it has no clock
-- of its own, and no out-signal is an in-signal or reaches one by reads.
pub record IsModel (model : FlatCircuit) : Type 0 where
  pub formed : IsWellFormed model
  pub order : List ℕ
  pub ordered : IsOrder model order
  pub clocks : model.clocks ≡ 0
  pub apart : (out signal : ℕ) → Contains model.outs out → Contains model.ins signal → ¬ Reaches model out signal
