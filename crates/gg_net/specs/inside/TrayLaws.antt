-- A tray has the values of its channel in the last cycles.
-- Source: MEMOCODE 2009 (the k-th token of each queue is the signal's value in cycle k). Trays are this program's own.
use Rattle.std.specs.Prelude.{◌≡◌, ℕ, ◌+◌, ◌<◌, ◌≤◌, Some, length}
use Rattle.gg_flat.specs.Line.{value_at}
use Rattle.gg_flat.specs.Streams.{Flow}
use Rattle.gg_node.specs.Machine.{KeepsLast, kept_value}
use Rattle.gg_net.specs.Network.{Network, consumer_of}
use Rattle.gg_net.specs.Kept.{Kept, list_at}

-- A tray has the value of each of its last cycles.
abbrev pub TraysTell : Type 0
TraysTell =
    (flow : Flow) (net : Network) (c rows t : ℕ)
    -- The network is kept, and channel c leads to a tray that keeps `rows` values.
    → Kept flow net → c < length net.wires → (consumer_of net c).behaviour ≡ KeepsLast rows
    -- Cycle t isn't before the beginning, and it is one of the last `rows` cycles before the tray's cycle.
    → flow.begin ≤ t → t < (consumer_of net c).cycle → (consumer_of net c).cycle ≤ t + rows
    -- The tray has the channel's value of that cycle.
    → kept_value (consumer_of net c) t ≡ Some (value_at (list_at flow.lists c) t)

-- A tray has no other values.
abbrev pub TraysTellOnly : Type 0
TraysTellOnly =
    (flow : Flow) (net : Network) (c rows t value : ℕ)
    -- The network is kept, and channel c leads to a tray that keeps `rows` values.
    → Kept flow net → c < length net.wires → (consumer_of net c).behaviour ≡ KeepsLast rows
    -- The tray has this value of cycle t.
    → kept_value (consumer_of net c) t ≡ Some value
    -- Cycle t isn't before the beginning and is one of the last `rows` cycles before the tray's cycle. The value is the channel's.
    → (flow.begin ≤ t) × (t < (consumer_of net c).cycle) × ((consumer_of net c).cycle ≤ t + rows) × (value ≡ value_at (list_at flow.lists c) t)
