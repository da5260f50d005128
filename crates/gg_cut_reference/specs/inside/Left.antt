-- The ports that no bridge has: which they are, how many, and the place of each among them. The top's out-signals are its outputs, followed by its
-- stops.
-- Source: ICCAD 2019 (bridges: models in the host's own code that stand at a target's ports).
use Rattle.std.specs.Prelude.{◌≡◌, ℕ, ◌<◌, ◌+◌, ◌++◌, ◌-◌, drop, length, not, true}
use Rattle.gg_flat.specs.Circuit.{FlatCircuit}
use Rattle.gg_flat.specs.Line.{value_at}
use Rattle.gg_flat_tree.specs.Tree.{InstanceTree, path_at}
use Rattle.gg_partfile.specs.Size.{all_driven, all_seen}
use Rattle.gg_partfile.specs.declared.request.Request.{Request}
use Rattle.gg_cut_plan.specs.Listed.{is_among}
use Rattle.gg_cut_plan.specs.Ports.{open_ins, open_outs, plan_bridges, undriven, unseen}
use Rattle.gg_bits.specs.Lists.{count_below}

-- The out-signals that no bridge sees are counted: the outputs among them, and all stops.
abbrev pub UnseenAreCounted : Type 0
UnseenAreCounted =
    (circuit : FlatCircuit) (tree : InstanceTree) (request : Request)
    → count_below (unseen (plan_bridges circuit tree request)) (length circuit.outs) ≡ length (open_outs circuit (length circuit.outs - length tree.stops) request) + length (drop (length circuit.outs - length tree.stops) circuit.outs)

-- An input is undriven exactly if no entry lists its path in `drives`.
abbrev pub UndrivenAreUnlisted : Type 0
UndrivenAreUnlisted =
    (circuit : FlatCircuit) (tree : InstanceTree) (request : Request) (p : ℕ)
    → undriven (plan_bridges circuit tree request) p ≡ not (is_among (all_driven request.bridges) (path_at circuit.paths (value_at circuit.ins p)))

-- An output is unseen exactly if no entry lists its path in `sees`.
abbrev pub UnseenAreUnlisted : Type 0
UnseenAreUnlisted =
    (circuit : FlatCircuit) (tree : InstanceTree) (request : Request) (p : ℕ)
    -- The out-signal is an output, no stop.
    → p < length circuit.outs - length tree.stops
    → unseen (plan_bridges circuit tree request) p ≡ not (is_among (all_seen request.bridges) (path_at circuit.paths (value_at circuit.outs p)))

-- An input that no bridge drives has a place among the inputs that are left.
abbrev pub UndrivenHaveAPlace : Type 0
UndrivenHaveAPlace =
    (circuit : FlatCircuit) (tree : InstanceTree) (request : Request) (p : ℕ)
    -- No bridge drives input p.
    → p < length circuit.ins → undriven (plan_bridges circuit tree request) p ≡ true
    -- Its place is the number of inputs before it that are left, and the input is found there.
    → (count_below (undriven (plan_bridges circuit tree request)) p < length (open_ins circuit request))
    × (value_at (open_ins circuit request) (count_below (undriven (plan_bridges circuit tree request)) p) ≡ value_at circuit.ins p)

-- An output that no bridge sees has a place among the outputs that are left.
abbrev pub UnseenHaveAPlace : Type 0
UnseenHaveAPlace =
    (circuit : FlatCircuit) (tree : InstanceTree) (request : Request) (p : ℕ)
    -- The out-signal p is an output, and no bridge sees it.
    → p < length circuit.outs - length tree.stops → unseen (plan_bridges circuit tree request) p ≡ true
    -- Its place is the number of outputs before it that are left, and the output is found there.
    → (count_below (unseen (plan_bridges circuit tree request)) p < length (open_outs circuit (length circuit.outs - length tree.stops) request))
    × (value_at (open_outs circuit (length circuit.outs - length tree.stops) request) (count_below (unseen (plan_bridges circuit tree request)) p) ≡ value_at circuit.outs p)

-- No bridge sees the k-th stop, and it has the k-th place after the outputs that are left.
abbrev pub StopsStandBehind : Type 0
StopsStandBehind =
    (circuit : FlatCircuit) (tree : InstanceTree) (request : Request) (k : ℕ)
    → (unseen (plan_bridges circuit tree request) (length circuit.outs - length tree.stops + k) ≡ true)
    × (count_below (unseen (plan_bridges circuit tree request)) (length circuit.outs - length tree.stops + k) ≡ length (open_outs circuit (length circuit.outs - length tree.stops) request) + k)

-- An out-signal that no bridge sees, output or stop, is found at its place among the outputs that are left and the stops after them.
abbrev pub LeftAreFound : Type 0
LeftAreFound =
    (circuit : FlatCircuit) (tree : InstanceTree) (request : Request) (p : ℕ)
    -- No bridge sees the out-signal p.
    → p < length circuit.outs → unseen (plan_bridges circuit tree request) p ≡ true
    -- Its place is the number of out-signals before it that no bridge sees.
    → value_at (open_outs circuit (length circuit.outs - length tree.stops) request ++ drop (length circuit.outs - length tree.stops) circuit.outs) (count_below (unseen (plan_bridges circuit tree request)) p) ≡ value_at circuit.outs p
