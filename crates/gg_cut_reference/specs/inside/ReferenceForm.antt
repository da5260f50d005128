-- What the reference circuit of a cut is: a circuit that is well formed, the design's own where nothing is piped, and the same
-- for all requests with the same pipes.
-- Source: MEMOCODE 2009 (a buffer with a token in it at the start delays a stream by a cycle).
use Rattle.std.specs.Prelude.{◌≡◌, ◌↔◌, ◌++◌, ℕ, List, [], Bool, None, Contains, length}
use Rattle.std.specs.List.{range_with_len}
use Rattle.gg_flat.specs.Circuit.{FlatCircuit}
use Rattle.gg_flat.specs.Order.{IsOrder}
use Rattle.gg_flat.specs.WellFormed.{IsWellFormed}
use Rattle.gg_flat_tree.specs.Tree.{InstanceTree}
use Rattle.gg_part.specs.KeepsToTree.{KeepsToTree}
use Rattle.gg_order.specs.Design.{Ordered, IsDesign}
use Rattle.gg_partfile.specs.declared.request.Request.{Request}
use Rattle.gg_partfile.specs.declared.request.BridgeEntry.{BridgeEntry}
use Rattle.gg_cut_plan.specs.declared.listed.Listed.{Listed}
use Rattle.gg_cut_plan.specs.Clocks.{ratio_of}
use Rattle.gg_cut_plan.specs.Direct.{hub_of}
use Rattle.gg_cut_plan.specs.Fault.{first_fault}
use Rattle.gg_cut_split.specs.inside.Apart.{AreApart}
use Rattle.gg_cut_reference.specs.inside.Reference.{IsReference}
use Rattle.gg_cut_reference.specs.Links.{pipes_of}
use Rattle.gg_cut_reference.specs.Made.{plan_reference, reference_circuit, AllHeld, IsFresh}
use Rattle.gg_cut_reference.specs.inside.Made.{views_in}
use Rattle.gg_cut_reference.specs.Follows.{plan_start}

-- ---- one circuit

-- The reference circuit has what the design has, and a register for each piped channel.
abbrev pub ReferencesArePiped : Type 0
ReferencesArePiped =
    (design : Ordered) (listed : Listed) (piped : ℕ → Bool) (entries : List BridgeEntry) (direct : Bool)
    -- The design keeps to its tree, and what is listed is apart.
    → IsDesign design → KeepsToTree design.circuit design.tree → AreApart design.tree listed
    -- The reference circuit is the design's with these pipes, where each machine sees signals by its names.
    → IsReference design.circuit (reference_circuit design.circuit design.tree listed piped entries direct) (views_in design.circuit design.tree listed piped entries direct) (pipes_of (hub_of design.circuit design.tree listed piped entries direct))

-- The reference circuit is well formed.
abbrev pub ReferencesAreFormed : Type 0
ReferencesAreFormed =
    (design : Ordered) (listed : Listed) (piped : ℕ → Bool) (entries : List BridgeEntry) (direct : Bool)
    -- The design keeps to its tree, and what is listed is apart.
    → IsDesign design → KeepsToTree design.circuit design.tree → AreApart design.tree listed
    -- No path of the design begins with `pipe:`.
    → IsFresh design.circuit
    -- Then the reference circuit is well formed.
    → IsWellFormed (reference_circuit design.circuit design.tree listed piped entries direct)

-- The reference circuit has an order of evaluation.
abbrev pub ReferencesAreOrdered : Type 0
ReferencesAreOrdered =
    (design : Ordered) (listed : Listed) (piped : ℕ → Bool) (entries : List BridgeEntry) (direct : Bool)
    -- The design keeps to its tree, and what is listed is apart.
    → IsDesign design → KeepsToTree design.circuit design.tree → AreApart design.tree listed
    -- The pipes, followed by the order of the design, are an order of the reference circuit.
    → IsOrder (reference_circuit design.circuit design.tree listed piped entries direct) (range_with_len (length design.circuit.signals) (length (pipes_of (hub_of design.circuit design.tree listed piped entries direct))) ++ design.order)

-- Where no channel is piped, the reference circuit is the circuit itself.
abbrev pub NothingIsPiped : Type 0
NothingIsPiped =
    (circuit : FlatCircuit) (tree : InstanceTree) (listed : Listed) (piped : ℕ → Bool) (entries : List BridgeEntry) (direct : Bool)
    -- The cut has no pipe.
    → pipes_of (hub_of circuit tree listed piped entries direct) ≡ []
    -- Its reference circuit is the circuit that is cut.
    → reference_circuit circuit tree listed piped entries direct ≡ circuit

-- ---- the circuits of two requests

-- The pipes of a request decide its reference circuit.
abbrev pub PipesDecideReference : Type 0
PipesDecideReference =
    (design : Ordered) (request other : Request)
    -- The design keeps to its tree, and each of its registers is held by a signal.
    → IsDesign design → KeepsToTree design.circuit design.tree → AllHeld design.circuit
    -- Neither request has a fault.
    → first_fault design request ≡ None → first_fault design other ≡ None
    -- They list the same pipes.
    → ((name : List ℕ) → Contains request.pipe name ↔ Contains other.pipe name)
    -- Then they have one reference circuit.
    → plan_reference design request ≡ plan_reference design other

-- The pipes of a request and its clocks decide where its run starts.
abbrev pub PipesDecideStart : Type 0
PipesDecideStart =
    (design : Ordered) (request other : Request)
    -- The design keeps to its tree, and each of its registers is held by a signal.
    → IsDesign design → KeepsToTree design.circuit design.tree → AllHeld design.circuit
    -- Neither request has a fault.
    → first_fault design request ≡ None → first_fault design other ≡ None
    -- They list the same pipes, and give each clock the same ratio.
    → ((name : List ℕ) → Contains request.pipe name ↔ Contains other.pipe name)
    → ((clock : List ℕ) → ratio_of request.clocks clock ≡ ratio_of other.clocks clock)
    -- Then their runs start alike.
    → plan_start design request ≡ plan_start design other
