-- The names of the machines at the ports of the top, and of the bridges.
-- Source: ICCAD 2019 (bridges: models in the host's own code that stand at a target's ports); the names are this program's own.
use Rattle.std.specs.Prelude.{◌≡◌, ℕ, ◌<◌, ◌≤◌, ◌+◌, ◌++◌, None, codes, length}
use Rattle.gg_flat.specs.Line.{value_at}
use Rattle.gg_flat_tree.specs.Tree.{path_at}
use Rattle.gg_order.specs.Design.{Ordered}
use Rattle.gg_partfile.specs.declared.request.Request.{Request}
use Rattle.gg_cut_plan.specs.Listed.{listed_of}
use Rattle.gg_cut_plan.specs.Plan.{entry_at, machine_names}
use Rattle.gg_cut_plan.specs.Ports.{first_bridge, giver_of, keeper_of, output_count, plan_bridges}

-- The source of an input is named after it.
abbrev pub SourcesAreNamed : Type 0
SourcesAreNamed =
    (design : Ordered) (request : Request) (p : ℕ)
    -- No bridge drives input p.
    → p < length design.circuit.ins → (plan_bridges design.circuit design.tree request).driver p ≡ None
    → path_at (machine_names design request (listed_of design.tree request)) (giver_of (plan_bridges design.circuit design.tree request) p) ≡ codes "in:" ++ path_at design.circuit.paths (value_at design.circuit.ins p)

-- The tray of an output is named after it.
abbrev pub OutputsAreNamed : Type 0
OutputsAreNamed =
    (design : Ordered) (request : Request) (p : ℕ)
    -- The out-signal p is an output, and no bridge sees it.
    → p < length design.circuit.outs → p < output_count design → (plan_bridges design.circuit design.tree request).viewer p ≡ None
    → path_at (machine_names design request (listed_of design.tree request)) (keeper_of (plan_bridges design.circuit design.tree request) p) ≡ codes "out:" ++ path_at design.circuit.paths (value_at design.circuit.outs p)

-- The tray of a stop is named after it.
abbrev pub StopsAreNamed : Type 0
StopsAreNamed =
    (design : Ordered) (request : Request) (p : ℕ)
    -- The out-signal p is a stop, and no bridge sees it.
    → p < length design.circuit.outs → output_count design ≤ p → (plan_bridges design.circuit design.tree request).viewer p ≡ None
    → path_at (machine_names design request (listed_of design.tree request)) (keeper_of (plan_bridges design.circuit design.tree request) p) ≡ codes "halt:" ++ path_at design.circuit.paths (value_at design.circuit.outs p)

-- The machines of bridges come after all others, each named after its entry.
abbrev pub BridgesAreNamed : Type 0
BridgesAreNamed =
    (design : Ordered) (request : Request) (k : ℕ) → k < length request.bridges
    → path_at (machine_names design request (listed_of design.tree request)) (first_bridge (plan_bridges design.circuit design.tree request) + k) ≡ codes "bridge:" ++ (entry_at request.bridges k).name
