-- What is listed, if a request has no fault.
-- Source: ICCAD 2019 (instances that are marked are apart, each a model of its own).
use Rattle.std.specs.Prelude.{◌≡◌, ◌≢◌, ◌⊎◌, ℕ, ◌<◌, ◌≤◌, ◌+◌, length, false, All, AllPairs}
use Rattle.gg_flat.specs.Circuit.{FlatCircuit}
use Rattle.gg_flat_tree.specs.Tree.{InstanceTree}
use Rattle.gg_partfile.specs.declared.request.Request.{Request}
use Rattle.gg_cut_plan.specs.Listed.{lies, listed_of, owner_of}
use Rattle.gg_cut_plan.specs.declared.listed.Listed.{Listed}
use Rattle.gg_cut_plan.specs.declared.wires.Wire.{Wire}
use Rattle.gg_cut_plan.specs.Direct.{plan_wires}
use Rattle.gg_bits.specs.Limits.{most_units, most_channels}

-- Units are instances below the top, and none of them is in another. Memories are the tree's, in its order.
pub record AreApart (tree : InstanceTree) (listed : Listed) : Type 0 where
  pub lower : All (λ unit. 0 < unit) listed.units
  pub known : All (λ unit. unit < length tree.instances) listed.units
  pub apart : AllPairs (λ a b. (lies tree a b ≡ false) × (lies tree b a ≡ false)) listed.units
  pub memories : All (λ place. place < length tree.memories) listed.memories
  pub ascending : AllPairs (λ a b. a < b) listed.memories

-- there are at most as many units and memories, and as many channels after the routing, as a plan may have
pub record AreFew (circuit : FlatCircuit) (tree : InstanceTree) (request : Request) : Type 0 where
  pub units : length (listed_of tree request).units + length (listed_of tree request).memories ≤ most_units
  pub channels : length (plan_wires circuit tree request) ≤ most_channels

-- the ends of a channel are two different machines; `count` is the number of machines
pub record AreEnds (count : ℕ) (w : Wire) : Type 0 where
  pub producer : w.producer < count
  pub consumer : w.consumer < count
  pub apart : w.producer ≢ w.consumer

-- the owner of a channel's signal is at one of the channel's ends
abbrev pub IsOwnerAtEnd : FlatCircuit → InstanceTree → Listed → Wire → Type 0
IsOwnerAtEnd circuit tree listed w = (w.producer ≡ owner_of circuit tree listed w.signal) ⊎ (w.consumer ≡ owner_of circuit tree listed w.signal)
