-- More on Network: definitions that no promise of the program reaches.
-- Source: MEMOCODE 2009 (a bounded dataflow network: nodes connected by queues of a bounded length); ICCAD 2019 (units
-- of a target that pass one another a token for each target cycle); Commoner, Holt, Even and Pnueli, "Marked Directed
-- Graphs" (1971), for a channel that holds a token at the start.
use Rattle.std.specs.Prelude.{◌≡◌, ℕ, ◌<◌, length}
use Rattle.gg_node.specs.Machine.{machine_at}
use Rattle.gg_net.specs.Network.{Network, puts, takes}

-- ---- counts

-- Two networks have the same counts.
pub record SameCounts (a b : Network) : Type 0 where
  pub cycles : (m : ℕ) → m < length a.machines → (machine_at a.machines m).cycle ≡ (machine_at b.machines m).cycle
  pub served : (m : ℕ) → m < length a.machines → (machine_at a.machines m).served ≡ (machine_at b.machines m).served
  pub puts : (c : ℕ) → c < length a.wires → puts a c ≡ puts b c
  pub takes : (c : ℕ) → c < length a.wires → takes a c ≡ takes b c
