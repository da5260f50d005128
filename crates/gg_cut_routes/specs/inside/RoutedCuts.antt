-- What the routing leaves of a cut is as good as what was there before.
-- Source: MEMOCODE 2009 (a fork: one out-signal of a node on several channels); ICCAD 2019 (units and memories of a target as
-- models of their own).
use Rattle.std.specs.Prelude.{◌≡◌, ◌≢◌, ◌↔◌, ℕ, ◌≤◌, List, Bool, None, Contains, filter}
use Rattle.gg_part.specs.KeepsToTree.{KeepsToTree}
use Rattle.gg_order.specs.Design.{Ordered, IsDesign}
use Rattle.gg_partfile.specs.declared.request.Request.{Request}
use Rattle.gg_partfile.specs.declared.request.BridgeEntry.{BridgeEntry}
use Rattle.gg_cut_plan.specs.declared.listed.Listed.{Listed}
use Rattle.gg_cut_plan.specs.Channels.{wires_of}
use Rattle.gg_cut_plan.specs.Direct.{Hub, hub_of, routes, plan_hub}
use Rattle.gg_cut_plan.specs.Fault.{first_fault}
use Rattle.gg_cut_plan.specs.Listed.{listed_of}
use Rattle.gg_cut_plan.specs.Ports.{first_bridge, plan_bridges}
use Rattle.gg_cut_plan.specs.Plan.{channels_to, channels_from, signals_of, givens_of}
use Rattle.gg_cut_split.specs.inside.Share.{IsShareOf}
use Rattle.gg_cut_split.specs.inside.Apart.{AreApart, AreFew}
use Rattle.gg_cut_split.specs.inside.Closed.{ins_in_cut, outs_in_cut}
use Rattle.gg_cut_routes.specs.inside.Routable.{MarksGone}
use Rattle.gg_cut_routes.specs.inside.Routes.{AreRoutes}
use Rattle.gg_cut_routes.specs.inside.Share.{IsPlanShare, stays_by}

-- ---- the channels

-- The routed channels of a cut make parts of the circuit.
abbrev pub ChannelsAreRouted : Type 0
ChannelsAreRouted =
    (design : Ordered) (listed : Listed) (piped : ℕ → Bool) (entries : List BridgeEntry) (direct : Bool)
    -- The design keeps to its tree, and what is listed is apart.
    → IsDesign design → KeepsToTree design.circuit design.tree → AreApart design.tree listed
    -- The cut's routed channels are good, whatever is piped, which bridges there are, and whether channels are direct.
    → AreRoutes design listed entries (hub_of design.circuit design.tree listed piped entries direct)

-- The channels of the plan of a request make parts of the circuit.
abbrev pub PlansAreRouted : Type 0
PlansAreRouted =
    (design : Ordered) (request : Request)
    -- The design keeps to its tree, and the request has no fault.
    → IsDesign design → KeepsToTree design.circuit design.tree → first_fault design request ≡ None
    -- The routed channels of the request's cut are good.
    → AreRoutes design (listed_of design.tree request) request.bridges (plan_hub design.circuit design.tree request)

-- A plan has at most 33,025 machines that are no bridges.
abbrev pub MachinesAreFew : Type 0
MachinesAreFew =
    (design : Ordered) (request : Request)
    -- The routed channels are good.
    → AreRoutes design (listed_of design.tree request) request.bridges (plan_hub design.circuit design.tree request)
    -- The request lists few units and memories, and the plan has few channels.
    → AreFew design.circuit design.tree request
    -- Then there are few machines too.
    → first_bridge (plan_bridges design.circuit design.tree request) ≤ 33025

-- ---- the machines

-- Machine m has these signals and memories, and the routed channels that are its own.
abbrev pub HasRouted : Ordered → Listed → Hub → ℕ → (globals memories : List ℕ) → Type 0
HasRouted design listed hub m globals memories = IsPlanShare design listed hub m (channels_to (routes hub) m) (channels_from (routes hub) m) globals memories

-- A signal of the hub stays if it isn't gone and its channel doesn't pass the hub.
abbrev pub HubIsRouted : Type 0
HubIsRouted =
    (design : Ordered) (listed : Listed) (piped : ℕ → Bool) (entries : List BridgeEntry) (direct : Bool) (gone : List Bool) (ins outs globals memories : List ℕ)
    -- The design keeps to its tree, what is listed is apart, and the routed channels are good.
    → IsDesign design → KeepsToTree design.circuit design.tree → AreApart design.tree listed
    → AreRoutes design listed entries (hub_of design.circuit design.tree listed piped entries direct)
    -- What leaves the plan is marked.
    → MarksGone (hub_of design.circuit design.tree listed piped entries direct) gone
    -- Before the routing, the hub has these signals and memories.
    → IsShareOf design listed (wires_of design.circuit design.tree listed entries) 0 ins outs globals memories
    -- After the routing, the hub has its signals that stay, and all the memories.
    → HasRouted design listed (hub_of design.circuit design.tree listed piped entries direct) 0
    (filter (stays_by (routes (hub_of design.circuit design.tree listed piped entries direct)) gone) globals) memories

-- Every other machine has the signals that it had.
abbrev pub OthersAreRouted : Type 0
OthersAreRouted =
    (design : Ordered) (listed : Listed) (piped : ℕ → Bool) (entries : List BridgeEntry) (direct : Bool) (m : ℕ) (ins outs globals memories : List ℕ)
    -- The design keeps to its tree, what is listed is apart, and the routed channels are good.
    → IsDesign design → KeepsToTree design.circuit design.tree → AreApart design.tree listed
    → AreRoutes design listed entries (hub_of design.circuit design.tree listed piped entries direct)
    -- The machine isn't the hub, and has these signals and memories before the routing.
    → m ≢ 0 → IsShareOf design listed (wires_of design.circuit design.tree listed entries) m ins outs globals memories
    -- It has them after the routing too.
    → HasRouted design listed (hub_of design.circuit design.tree listed piped entries direct) m globals memories

-- Another machine than the hub takes what it took before, in the same order.
abbrev pub OthersTakeTheSame : Type 0
OthersTakeTheSame =
    (design : Ordered) (listed : Listed) (piped : ℕ → Bool) (entries : List BridgeEntry) (direct : Bool) (m : ℕ)
    -- The design keeps to its tree, what is listed is apart, and the machine isn't the hub.
    → IsDesign design → KeepsToTree design.circuit design.tree → AreApart design.tree listed → m ≢ 0
    -- The routed channels to the machine carry the signals that it took before.
    → signals_of (routes (hub_of design.circuit design.tree listed piped entries direct)) (channels_to (routes (hub_of design.circuit design.tree listed piped entries direct)) m) ≡ ins_in_cut design listed entries m

-- Another machine than the hub gives by the same signals as before.
abbrev pub OthersGiveTheSame : Type 0
OthersGiveTheSame =
    (design : Ordered) (listed : Listed) (piped : ℕ → Bool) (entries : List BridgeEntry) (direct : Bool) (m s : ℕ)
    -- The design keeps to its tree, what is listed is apart, and the machine isn't the hub.
    → IsDesign design → KeepsToTree design.circuit design.tree → AreApart design.tree listed → m ≢ 0
    -- The machine gives by signal s on a routed channel if it gave by s before, and only then.
    → Contains (givens_of (routes (hub_of design.circuit design.tree listed piped entries direct)) (channels_from (routes (hub_of design.circuit design.tree listed piped entries direct)) m)) s ↔ Contains (outs_in_cut design listed entries m) s
