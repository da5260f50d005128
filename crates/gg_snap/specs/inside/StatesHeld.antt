-- The places of the state of a plan's circuit: in the machines of the plan, and in a network at the end of a run. It can be saved.
-- Source: MEMOCODE 2009 (a network of machines has the state of the synchronous circuit that it was cut from, each machine its part, and a
-- pipe's register is the token in its channel).
use Rattle.std.specs.Prelude.{◌≡◌, ◌<◌, ℕ, List, [], None, length}
use Rattle.gg_flat.specs.Run.{Start}
use Rattle.gg_flat.specs.State.{State}
use Rattle.gg_flat.specs.Streams.{Flow}
use Rattle.gg_part.specs.KeepsToTree.{KeepsToTree}
use Rattle.gg_order.specs.Design.{IsDesign, Ordered}
use Rattle.gg_partfile.specs.declared.request.Request.{Request}
use Rattle.gg_front.specs.inside.Paths.{HavePaths}
use Rattle.gg_cut_plan.specs.Bridges.{Models}
use Rattle.gg_cut_plan.specs.Fault.{first_fault}
use Rattle.gg_cut_plan.specs.Held.{AreHeldOnce}
use Rattle.gg_cut_plan.specs.Plan.{IsPlan}
use Rattle.gg_cut_plan.specs.declared.plan.Plan.{Plan}
use Rattle.gg_cut_reference.specs.Made.{AllHeld, IsFresh, plan_reference}
use Rattle.gg_net.specs.Kept.{Kept}
use Rattle.gg_net.specs.Network.{Network}
use Rattle.gg_build.specs.Build.{IsOpeningFrom, IsToRunFrom, run_token}
use Rattle.gg_build.specs.StandsAt.{StandsAt}
use Rattle.gg_snap.specs.text.Known.{CanSave}
use Rattle.gg_snap.specs.inside.TextWhole.{IsWhole}
use Rattle.gg_snap.specs.inside.Gathered.{AreIn, IsAll, IsHeldBy, IsKeptBy}
use Rattle.gg_snap.specs.inside.Whole.{CanBegin}
use Rattle.gg_snap.specs.Whole.{last_state}

-- ---- the circuit that a plan's network computes

-- Its states can be saved.
abbrev pub PlansCanSave : Type 0
PlansCanSave =
    (design : Ordered) (request : Request)
    -- The design keeps to its tree, its signals have paths, and no two of them hold one register.
    → IsDesign design → KeepsToTree design.circuit design.tree → AreHeldOnce design.circuit → HavePaths design.circuit design.tree
    -- The request has no fault for it.
    → first_fault design request ≡ None
    -- The states of the reference circuit can be saved.
    → CanSave (plan_reference design request) design.tree

-- Each of its registers is held by a signal, and each of its memories is in the tree.
abbrev pub PlansAreWhole : Type 0
PlansAreWhole =
    (design : Ordered) (request : Request)
    -- The design keeps to its tree, and some signal holds each register.
    → IsDesign design → KeepsToTree design.circuit design.tree → AllHeld design.circuit
    -- The request has no fault for it.
    → first_fault design request ≡ None
    -- The reference circuit is whole.
    → IsWhole (plan_reference design request) design.tree

-- ---- the machines of a plan

-- They hold all registers of the design's circuit.
abbrev pub RegistersAreHeld : Type 0
RegistersAreHeld =
    (design : Ordered) (request : Request) (models : Models) (default : ℕ) (plan : Plan)
    -- This is a plan of the design and the request.
    → IsPlan design request models default plan
    -- The design keeps to its tree, and some signal holds each register. The request has no fault for it.
    → IsDesign design → KeepsToTree design.circuit design.tree → AllHeld design.circuit → first_fault design request ≡ None
    -- A machine holds register r.
    → (r : ℕ) → r < length design.circuit.registers → IsHeldBy plan r

-- They have all of its memories.
abbrev pub MemoriesAreKept : Type 0
MemoriesAreKept =
    (design : Ordered) (request : Request) (models : Models) (default : ℕ) (plan : Plan)
    -- This is a plan of the design and the request.
    → IsPlan design request models default plan
    -- The design keeps to its tree, and some signal holds each register. The request has no fault for it.
    → IsDesign design → KeepsToTree design.circuit design.tree → AllHeld design.circuit → first_fault design request ≡ None
    -- A machine has memory k.
    → (k : ℕ) → k < length design.circuit.memories → IsKeptBy plan k

-- ---- a network

-- At the end of a run each machine is in its part of the state of the reference circuit.
abbrev pub MachinesAreInTheState : Type 0
MachinesAreInTheState =
    (plan : Plan) (start : Start) (columns : List (List ℕ)) (n : ℕ) (flow : Flow) (run : IsToRunFrom plan start columns n flow) (net : Network)
    -- The request has no bridge, and no path of the circuit begins like the path of a pipe.
    → run.request.bridges ≡ [] → IsFresh run.design.circuit
    -- The network is the plan's, and all its machines are at the end of the run.
    → Kept flow net → StandsAt plan start (run_token run) columns n n net
    -- They are in the state after the last cycle.
    → AreIn run.design.circuit plan net (last_state run)

-- The channel of each pipe has one token, the value of the pipe's register, and so the network has all of the state.
abbrev pub TheWholeStateIsThere : Type 0
TheWholeStateIsThere =
    (plan : Plan) (start : Start) (columns : List (List ℕ)) (n : ℕ) (flow : Flow) (run : IsToRunFrom plan start columns n flow) (net : Network)
    -- The request has no bridge, no path of the circuit begins like the path of a pipe, and some signal holds each register.
    → run.request.bridges ≡ [] → IsFresh run.design.circuit → AllHeld run.design.circuit
    -- The network is the plan's, and all its machines are at the end of the run.
    → Kept flow net → StandsAt plan start (run_token run) columns n n net
    -- It has all of the state after the last cycle.
    → IsAll run.design.circuit plan net (last_state run)

-- This is the network of a plan before its first step from a cycle and a state, from whatever start they are.
abbrev pub BeginsIn : Plan → Ordered → (cycle : ℕ) → State → (columns : List (List ℕ)) → (n : ℕ) → Flow → Network → Type 0
BeginsIn plan design cycle state columns n flow net =
    (start : Start) (can : CanBegin plan design cycle state start columns n flow)
    → IsOpeningFrom plan start (run_token can.run) columns n net
