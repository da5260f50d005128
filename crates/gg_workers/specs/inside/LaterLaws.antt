-- The measure of a network that workers have run.
-- Source: Dijkstra, "A Discipline of Programming" (1976) (a number that each step lowers shows that steps end).
use Rattle.std.specs.Prelude.{◌≢◌, ℕ, ◌+◌, ◌<◌, ◌≤◌, List, All, AllPairs, length}
use Rattle.gg_flat.specs.Streams.{Flow}
use Rattle.gg_net.specs.declared.event.Event.{Event}
use Rattle.gg_net.specs.Network.{Network}
use Rattle.gg_net.specs.Kept.{Kept}
use Rattle.gg_net.specs.Step.{Ready}
use Rattle.gg_net.specs.inside.Step.{machine_of}
use Rattle.gg_measure.specs.inside.Nets.{net_left}
use Rattle.gg_net.specs.Network.{cycle_at}
use Rattle.gg_workers.specs.Work.{IsLater}

-- The measure falls by at least the number of the events that could be done.
abbrev pub FallsByReady : Type 0
FallsByReady =
    (flow : Flow) (upto : ℕ) (old new : Network) (ready : List Event)
    -- The first network is kept, and the second comes back from workers that run it up to this cycle.
    → Kept flow old → IsLater flow upto old new
    -- These events are different, each may be done in the first network, and its machine is below that cycle.
    → AllPairs (λ a b. a ≢ b) ready → All (λ e. Ready old e × (cycle_at old (machine_of old e) < upto)) ready
    -- The measure of the first is at least the measure of the second and the number of these events together.
    → length ready + net_left new ≤ net_left old
