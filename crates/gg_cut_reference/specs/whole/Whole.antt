-- The reference circuit of a request with the models of its bridges in it, and what a run of it is: a run of the reference circuit and of
-- each model.
-- Source: ICCAD 2019 (bridges: models in the host's own code that stand at a target's ports, so that target and models together are one
-- simulated system); FIRRTL Specification, "Connects".
use Rattle.std.specs.Prelude.{◌≡◌, ◌≢◌, ℕ, ◌<◌, ◌+◌, ◌++◌, List, [], ◌∷◌, None, length, codes}
use Rattle.gg_flat.specs.Circuit.{FlatCircuit}
use Rattle.gg_flat.specs.Run.{Start}
use Rattle.gg_flat.specs.State.{State, opening}
use Rattle.gg_flat_tree.specs.Tree.{path_at}
use Rattle.gg_part.specs.KeepsToTree.{KeepsToTree}
use Rattle.gg_order.specs.Design.{Ordered, IsDesign}
use Rattle.gg_partfile.specs.declared.request.BridgeEntry.{BridgeEntry}
use Rattle.gg_partfile.specs.declared.request.Request.{Request}
use Rattle.gg_bridge.specs.All.{joined_state}
use Rattle.gg_bridge.specs.Ports.{joined_at}
use Rattle.gg_cut_plan.specs.Bridges.{Models, model_of}
use Rattle.gg_cut_plan.specs.Fault.{first_fault_with}
use Rattle.gg_cut_reference.specs.fitting.Fitting.{AreModels}
use Rattle.gg_cut_reference.specs.Made.{plan_reference}

-- ---- the circuit

-- a circuit with the models of these entries, one after another, each at the ports that its entry lists
abbrev pub with_bridges : Models → FlatCircuit → List BridgeEntry → FlatCircuit
with_bridges models one [] = one
with_bridges models one (entry ∷ entries) = with_bridges models (joined_at one entry.name (model_of models entry) entry.sees entry.drives) entries

-- The circuit that the network of a request computes: the reference circuit with the models of the request's bridges. Without bridges it is
-- the reference circuit.
abbrev pub plan_circuit : Ordered → Request → Models → FlatCircuit
plan_circuit design request models = with_bridges models (plan_reference design request) request.bridges

-- ---- where it starts

-- a state of a circuit, and zeros for the models of these entries
abbrev pub states_with : Models → State → List BridgeEntry → State
states_with models state [] = state
states_with models state (entry ∷ entries) = states_with models (joined_state state (opening (model_of models entry))) entries

-- the start of the whole, where the reference circuit has this start and each model zeros
abbrev pub plan_begin : Ordered → Request → Models → Start → Start
plan_begin design request models start = record { cycle = start.cycle; state = states_with models start.state request.bridges; ratios = start.ratios }

-- ---- what has to hold

-- No path of the circuit begins with `pipe:` or `bridge:`.
pub record HasFreeFronts (circuit : FlatCircuit) : Type 0 where
  pub pipe : (s : ℕ) (path : List ℕ) → s < length circuit.signals → path_at circuit.paths s ≢ codes "pipe:" ++ path
  pub bridge : (s : ℕ) (path : List ℕ) → s < length circuit.signals → path_at circuit.paths s ≢ codes "bridge:" ++ path

-- A design that keeps to its tree, a request that has no fault for it, and models that may be its bridges' models.
pub record CanBridge (design : Ordered) (request : Request) (models : Models) : Type 0 where
  pub design_is : IsDesign design
  pub keeps : KeepsToTree design.circuit design.tree
  pub free : HasFreeFronts design.circuit
  pub faultless : first_fault_with design models request ≡ None
  pub are : AreModels models
