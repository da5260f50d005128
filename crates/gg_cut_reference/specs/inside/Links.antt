-- More on Links: what no promise of the program reaches.
-- Source: MEMOCODE 2009 (channels between the nodes of a dataflow network; tokens that are there at the start).
use Rattle.std.specs.Prelude.{◌≡◌, ℕ, ◌<◌, List, length, Contains}
use Rattle.gg_flat.specs.Circuit.{driver_at}
use Rattle.gg_flat.specs.declared.piece.Driver.TheVariants.{Held}
use Rattle.gg_cut_plan.specs.Direct.{Hub}
use Rattle.gg_cut_reference.specs.Links.{maker_of}

-- each register is held by signals of one machine, and each memory of the part is the machine's
pub record AreHolders (hub : Hub) (holder keeper : ℕ → ℕ) (m : ℕ) (memories : List ℕ) : Type 0 where
  pub registers : (s r : ℕ) → s < length hub.circuit.signals → driver_at hub.circuit s ≡ Held r → holder r ≡ maker_of hub s
  pub kept : (k : ℕ) → Contains memories k → keeper k ≡ m
