-- What holds of the reference circuit of a request with the models of its bridges: its out-signals, its runs and its starts.
-- Source: ICCAD 2019 (bridges: models in the host's own code that stand at a target's ports, so that target and models together are one
-- simulated system).
use Rattle.std.specs.Prelude.{◌≡◌, ◌++◌, ℕ, List, map, drop}
use Rattle.gg_flat.specs.Run.{IsColumns, Start, clocked_start}
use Rattle.gg_flat.specs.State.{IsState}
use Rattle.gg_order.specs.Design.{Ordered}
use Rattle.gg_partfile.specs.declared.request.Request.{Request}
use Rattle.gg_cut_plan.specs.Bridges.{Models}
use Rattle.gg_cut_plan.specs.Clocks.{ratios_of}
use Rattle.gg_cut_plan.specs.Direct.{plan_hub}
use Rattle.gg_cut_plan.specs.Ports.{open_outs, output_count}
use Rattle.gg_cut_plan.specs.Solves.{AreRows}
use Rattle.gg_cut_reference.specs.Follows.{plan_start}
use Rattle.gg_cut_reference.specs.Links.{taken_as}
use Rattle.gg_cut_reference.specs.Made.{plan_reference}
use Rattle.gg_cut_reference.specs.whole.Whole.{CanBridge, plan_begin, plan_circuit}
use Rattle.gg_cut_reference.specs.inside.Whole.{RunsWhole}

-- The out-signals of the whole are what trays keep.
abbrev pub OutsAreKept : Type 0
OutsAreKept =
    (design : Ordered) (request : Request) (models : Models)
    -- The design, the request and the models are fit for bridges.
    → CanBridge design request models
    -- They are the outputs that no bridge sees, followed by the stops, each as it is taken, from a pipe or not.
    → (plan_circuit design request models).outs ≡ map (taken_as (plan_hub design.circuit design.tree request)) (open_outs design.circuit (output_count design) request ++ drop (output_count design) design.circuit.outs)

-- A run of the whole is a run of the reference circuit and of each model.
abbrev pub WholeRunsItsParts : Type 0
WholeRunsItsParts =
    (design : Ordered) (request : Request) (models : Models) (start : Start) (columns : List (List ℕ)) (end : ℕ) (rows : List (List ℕ))
    -- The design, the request and the models are fit for bridges.
    → CanBridge design request models
    -- The start is a state of the reference circuit, and each model has zeros.
    → IsState (plan_reference design request) start.state
    -- The rows are the run of the whole from there, on these columns of its inputs.
    → IsColumns (plan_circuit design request models) end columns
    → AreRows (plan_circuit design request models) (plan_begin design request models start) columns end rows
    -- In these rows the reference circuit and each model run.
    → RunsWhole design request models start columns end rows

-- Where the reference circuit starts with zeros, so does the whole.
abbrev pub ZerosStay : Type 0
ZerosStay =
    (design : Ordered) (request : Request) (models : Models)
    → plan_begin design request models (plan_start design request) ≡ clocked_start (plan_circuit design request models) (ratios_of design.tree request)

-- The whole starts in a state that it can be in.
abbrev pub StartsAreTyped : Type 0
StartsAreTyped =
    (design : Ordered) (request : Request) (models : Models) (start : Start)
    -- The design, the request and the models are fit for bridges.
    → CanBridge design request models
    -- The reference circuit can be in the state of its start.
    → IsState (plan_reference design request) start.state
    -- Then the whole can be in the state of its own start, where each model has zeros.
    → IsState (plan_circuit design request models) (plan_begin design request models start).state
