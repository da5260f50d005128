-- The rows of a circuit's outputs, and the values that host steps bring to trays.
-- Source: MEMOCODE 2009 (the k-th token of a queue is the value of its signal in cycle k, so the sink of an output has the
-- output's column, in whatever order the nodes go on); ICCAD 2019 (sinks at the outputs of a target).
use Rattle.std.specs.Prelude.{◌≡◌, ℕ, ◌+◌, ◌<◌, List, Option, Some, length}
use Rattle.gg_flat.specs.Line.{value_at}
use Rattle.gg_net.specs.markings.Steps.{Steps}
use Rattle.gg_node.specs.Machine.{machine_at, kept_value}
use Rattle.gg_net.specs.declared.event.Event.{Event}
use Rattle.gg_net.specs.Network.{Network}

-- ---- the values that host steps bring to trays

-- From this network host steps bring these values of a cycle to the machines that begin with number `first`, in order. Some steps, one after another,
-- lead to a network where each machine has done the cycle, and these machines have kept these values of it. And whatever steps are done, these
-- machines never keep another value of the cycle.
pub record TraysKeep (opening : Network) (first cycle : ℕ) (values : List ℕ) : Type 0 where
  pub events : List (Option Event)
  pub net : Network
  pub leads : Steps opening events net
  pub done : (m : ℕ) → m < length net.machines → cycle < (machine_at net.machines m).cycle
  pub keep : (k : ℕ) → k < length values → kept_value (machine_at net.machines (first + k)) cycle ≡ Some (value_at values k)
  pub only : (others : List (Option Event)) (other : Network) (k value : ℕ) → Steps opening others other → k < length values
      → kept_value (machine_at other.machines (first + k)) cycle ≡ Some value → value ≡ value_at values k
