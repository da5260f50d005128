-- Why the steps of a network stop before their end.
-- Source: MEMOCODE 2009 (a network goes on by steps, one node at a time). This program's own: steps count from 1, and
-- no step is done after one that is refused.
use Rattle.std.specs.Prelude.{ℕ, List, Option, ⊤}
use Rattle.gg_flat.specs.Streams.{Flow}
use Rattle.gg_net.specs.declared.event.Event.{Event}
use Rattle.gg_net.specs.Network.{Network}
use Rattle.gg_net.specs.markings.Steps.{StopsAt}
use Rattle.gg_replay.specs.inside.Log.{AreFronts}
use Rattle.gg_replay.specs.declared.fault.ReplayFault.{ReplayFault}
use Rattle.gg_replay.specs.declared.fault.ReplayFault.TheVariants.{Refused, NoMemory}

-- The steps stop for this cause. The network is then the new one: the steps before the refused one are done. `NoMemory`
-- implies nothing.
abbrev pub IsStop : Network → List (Option Event) → Network → ReplayFault → Type 0
IsStop old steps new (Refused step cause) = StopsAt 1 old steps new (record { step = step; cause = cause })
IsStop old steps new NoMemory = ⊤

-- after a refused step the log is right for the network
abbrev pub KeepsLog : Flow → Network → List (List ℕ) → ReplayFault → Type 0
KeepsLog flow net log (Refused step cause) = AreFronts flow net log
KeepsLog flow net log NoMemory = ⊤
