-- Designs of one circuit.
-- Source: this program's own. Only the order in which a circuit is evaluated is left open, and nothing that a request
-- names or a text shows depends on it.
use Rattle.std.specs.Prelude.{◌≡◌}
use Rattle.gg_order.specs.Design.{Ordered}

-- Two designs have the same flat circuit and the same tree of instances.
pub record AreAlike (one other : Ordered) : Type 0 where
  pub circuit : one.circuit ≡ other.circuit
  pub tree : one.tree ≡ other.tree
