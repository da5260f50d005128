-- What a run of the reference circuit of a cut is to the machines and the channels of the cut. It may start anywhere, and the
-- clocks may have any ratios.
-- Source: MEMOCODE 2009 (a node of the network computes what its part of the design computes; tokens on the channels).
use Rattle.std.specs.Prelude.{◌≡◌, ℕ, ◌<◌, ◌≤◌, List, [], Bool, None, Contains, length, slice_index_or}
use Rattle.gg_flat.specs.Line.{value_at}
use Rattle.gg_flat.specs.Run.{IsColumns, Start, column}
use Rattle.gg_flat.specs.State.{IsState}
use Rattle.gg_part.specs.declared.part.Part.{Part}
use Rattle.gg_part.specs.KeepsToTree.{KeepsToTree}
use Rattle.gg_order.specs.Design.{Ordered, IsDesign}
use Rattle.gg_partfile.specs.declared.request.BridgeEntry.{BridgeEntry}
use Rattle.gg_cut_plan.specs.declared.listed.Listed.{Listed}
use Rattle.gg_cut_plan.specs.Ports.{giver_of, ports_of}
use Rattle.gg_cut_plan.specs.Held.{AreHeldOnce}
use Rattle.gg_cut_plan.specs.Plan.{wire_at, channels_from, IsCutPart}
use Rattle.gg_cut_plan.specs.Direct.{Hub, hub_of, routes}
use Rattle.gg_cut_plan.specs.Solves.{AreRows}
use Rattle.gg_cut_split.specs.inside.Apart.{AreApart}
use Rattle.gg_cut_reference.specs.Links.{taken_as}
use Rattle.gg_cut_reference.specs.Made.{reference_circuit}
use Rattle.gg_cut_reference.specs.inside.Follows.{Follows, given_column, taken_column}

-- A machine follows a run of the reference circuit.
abbrev pub MachinesFollow : Type 0
MachinesFollow =
    (design : Ordered) (listed : Listed) (piped : ℕ → Bool) (entries : List BridgeEntry) (direct : Bool)
    (m : ℕ) (part : Part) (start : Start) (columns : List (List ℕ)) (end : ℕ) (rows : List (List ℕ))
    -- The design keeps to its tree, what is listed is apart, and no register is held by two signals.
    → IsDesign design → KeepsToTree design.circuit design.tree → AreApart design.tree listed → AreHeldOnce design.circuit
    -- The part is the part of machine m.
    → IsCutPart design listed (hub_of design.circuit design.tree listed piped entries direct) m part
    -- The reference circuit has a run with these rows.
    → IsState (reference_circuit design.circuit design.tree listed piped entries direct) start.state
    → AreRows (reference_circuit design.circuit design.tree listed piped entries direct) start columns end rows
    -- Then the part has a run on what the machine takes, and in each such run the machine gives what its channels carry.
    → Follows (hub_of design.circuit design.tree listed piped entries direct) m start end part rows

-- The signal of the reference circuit that the consumer of channel c gets has the values that the channel brings.
abbrev pub BringsValues : Hub → Start → (end : ℕ) → List (List ℕ) → ℕ → Type 0
BringsValues hub start end rows c = column rows (taken_as hub (wire_at (routes hub) c).signal) ≡ taken_column hub start end rows c

-- A channel brings its consumer what its producer gives, a cycle later and after a token where it is piped.
abbrev pub ChannelsFollow : Type 0
ChannelsFollow =
    (design : Ordered) (listed : Listed) (piped : ℕ → Bool) (entries : List BridgeEntry) (direct : Bool)
    (start : Start) (columns : List (List ℕ)) (end : ℕ) (rows : List (List ℕ)) (c : ℕ)
    -- The design keeps to its tree, and what is listed is apart.
    → IsDesign design → KeepsToTree design.circuit design.tree → AreApart design.tree listed
    -- The reference circuit has a run with these rows.
    → IsState (reference_circuit design.circuit design.tree listed piped entries direct) start.state
    → AreRows (reference_circuit design.circuit design.tree listed piped entries direct) start columns end rows
    -- The channel is one of the cut.
    → c < length (routes (hub_of design.circuit design.tree listed piped entries direct))
    -- Its consumer gets what it brings.
    → BringsValues (hub_of design.circuit design.tree listed piped entries direct) start end rows c

-- A channel of the source of a top input is given the values of the input.
abbrev pub SourcesFollow : Type 0
SourcesFollow =
    (design : Ordered) (listed : Listed) (piped : ℕ → Bool) (entries : List BridgeEntry) (direct : Bool)
    (start : Start) (columns : List (List ℕ)) (end : ℕ) (rows : List (List ℕ)) (p c : ℕ)
    -- The design keeps to its tree, and what is listed is apart.
    → IsDesign design → KeepsToTree design.circuit design.tree → AreApart design.tree listed
    -- The reference circuit has a run with these rows on these columns.
    → IsColumns (reference_circuit design.circuit design.tree listed piped entries direct) end columns
    → IsState (reference_circuit design.circuit design.tree listed piped entries direct) start.state
    → AreRows (reference_circuit design.circuit design.tree listed piped entries direct) start columns end rows
    -- No bridge drives the top input at place p, and the input's source gives the channel.
    → p < length design.circuit.ins → (ports_of design.circuit design.tree listed entries).driver p ≡ None
    → Contains (channels_from (routes (hub_of design.circuit design.tree listed piped entries direct)) (giver_of (ports_of design.circuit design.tree listed entries) p)) c
    -- In each cycle of the run it is given the input's value.
    → (t : ℕ) → start.cycle ≤ t → t < end
    → value_at (given_column (hub_of design.circuit design.tree listed piped entries direct) rows c) t ≡ value_at (slice_index_or columns p []) t
