-- The channels of a cut, and the machines at their ends.
-- Source: MEMOCODE 2009 (the channels between the nodes of a network); ICCAD 2019 (instances that are marked are apart,
-- each a model of its own).
use Rattle.std.specs.Prelude.{◌≢◌, List, All, AllPairs}
use Rattle.gg_part.specs.KeepsToTree.{KeepsToTree}
use Rattle.gg_order.specs.Design.{Ordered, IsDesign}
use Rattle.gg_partfile.specs.declared.request.BridgeEntry.{BridgeEntry}
use Rattle.gg_cut_plan.specs.declared.listed.Listed.{Listed}
use Rattle.gg_cut_plan.specs.Ports.{machine_end, ports_of}
use Rattle.gg_cut_plan.specs.Channels.{wires_of}
use Rattle.gg_cut_split.specs.inside.Apart.{AreApart, AreEnds, IsOwnerAtEnd}

-- The owner of a channel's signal is at one of the channel's ends.
abbrev pub OwnersAreAtEnds : Type 0
OwnersAreAtEnds =
    (design : Ordered) (listed : Listed) (entries : List BridgeEntry)
    -- The design keeps to its tree, and what is listed is apart.
    → IsDesign design → KeepsToTree design.circuit design.tree → AreApart design.tree listed
    -- Each channel has the owner of its signal at an end.
    → All (IsOwnerAtEnd design.circuit design.tree listed) (wires_of design.circuit design.tree listed entries)

-- A signal has at most one channel.
abbrev pub SignalsHaveOneChannel : Type 0
SignalsHaveOneChannel =
    (design : Ordered) (listed : Listed) (entries : List BridgeEntry)
    -- The design keeps to its tree, and what is listed is apart.
    → IsDesign design → KeepsToTree design.circuit design.tree → AreApart design.tree listed
    -- No two channels carry the same signal.
    → AllPairs (λ v w. v.signal ≢ w.signal) (wires_of design.circuit design.tree listed entries)

-- A channel is between two machines.
abbrev pub ChannelsHaveTwoEnds : Type 0
ChannelsHaveTwoEnds =
    (design : Ordered) (listed : Listed) (entries : List BridgeEntry)
    -- The design keeps to its tree, and what is listed is apart.
    → IsDesign design → KeepsToTree design.circuit design.tree → AreApart design.tree listed
    -- The ends of each channel are two different machines of the cut.
    → All (AreEnds (machine_end (ports_of design.circuit design.tree listed entries))) (wires_of design.circuit design.tree listed entries)
