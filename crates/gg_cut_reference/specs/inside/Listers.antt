-- Which bridge has a port: the bridge of the entry that lists the port's path.
-- Source: ICCAD 2019 (bridges: models in the host's own code that stand at a target's ports).
use Rattle.std.specs.Prelude.{◌≡◌, ◌≢◌, ℕ, ◌<◌, ◌-◌, AllPairs, Contains, Some, length}
use Rattle.gg_flat.specs.Circuit.{FlatCircuit}
use Rattle.gg_flat.specs.Line.{value_at}
use Rattle.gg_flat_tree.specs.Tree.{InstanceTree, path_at}
use Rattle.gg_partfile.specs.Size.{all_driven, all_seen}
use Rattle.gg_partfile.specs.declared.request.Request.{Request}
use Rattle.gg_cut_plan.specs.Plan.{entry_at}
use Rattle.gg_cut_plan.specs.Ports.{plan_bridges}

-- The bridge that drives an input lists its path.
abbrev pub DriversListTheirInputs : Type 0
DriversListTheirInputs =
    (circuit : FlatCircuit) (tree : InstanceTree) (request : Request) (p k : ℕ)
    -- Bridge k drives input p.
    → (plan_bridges circuit tree request).driver p ≡ Some k
    -- There is an entry k, and it lists the input's path in `drives`.
    → (k < length request.bridges) × Contains (entry_at request.bridges k).drives (path_at circuit.paths (value_at circuit.ins p))

-- Where no input is listed twice, the bridge that lists an input's path drives it.
abbrev pub ListedInputsAreDriven : Type 0
ListedInputsAreDriven =
    (circuit : FlatCircuit) (tree : InstanceTree) (request : Request) (p k : ℕ)
    -- No path of an input is listed twice.
    → AllPairs (λ a b. a ≢ b) (all_driven request.bridges)
    -- Entry k lists the path of input p.
    → k < length request.bridges → Contains (entry_at request.bridges k).drives (path_at circuit.paths (value_at circuit.ins p))
    -- Its bridge drives the input.
    → (plan_bridges circuit tree request).driver p ≡ Some k

-- The bridge that sees an output lists its path.
abbrev pub ViewersListTheirOutputs : Type 0
ViewersListTheirOutputs =
    (circuit : FlatCircuit) (tree : InstanceTree) (request : Request) (p k : ℕ)
    -- Bridge k sees out-signal p.
    → (plan_bridges circuit tree request).viewer p ≡ Some k
    -- That is an output, no stop; there is an entry k, and it lists the output's path in `sees`.
    → (p < length circuit.outs - length tree.stops) × (k < length request.bridges) × Contains (entry_at request.bridges k).sees (path_at circuit.paths (value_at circuit.outs p))

-- Where no output is listed twice, the bridge that lists an output's path sees it.
abbrev pub ListedOutputsAreSeen : Type 0
ListedOutputsAreSeen =
    (circuit : FlatCircuit) (tree : InstanceTree) (request : Request) (p k : ℕ)
    -- No path of an output is listed twice.
    → AllPairs (λ a b. a ≢ b) (all_seen request.bridges)
    -- Entry k lists the path of out-signal p, which is an output.
    → p < length circuit.outs - length tree.stops → k < length request.bridges → Contains (entry_at request.bridges k).sees (path_at circuit.paths (value_at circuit.outs p))
    -- Its bridge sees the output.
    → (plan_bridges circuit tree request).viewer p ≡ Some k
