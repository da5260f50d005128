-- Printing from a plan's network: the text of a run of the plan's circuit, and the values that are read from its trays for it.
-- Source: ICCAD 2019 (Golden Gate) for target cycles as rows; MEMOCODE 2009 (the k-th token of each queue is the value of its signal in
-- cycle k, in whatever order the nodes go on).
use Rattle.std.specs.Prelude.{◌≡◌, ℕ, ◌+◌, ◌-◌, ◌<◌, ◌≤◌, List, Option, Result, length}
use Rattle.gg_cut_reference.specs.whole.Whole.{plan_circuit}
use Rattle.gg_build.specs.inside.Build.{FromZeros}
use Rattle.gg_build.specs.Build.{IsOpeningFrom, IsToRunFrom, run_token}
use Rattle.gg_bits.specs.Limits.{tray_rows}
use Rattle.gg_io.specs.inside.Endings.{PrintsOn}
use Rattle.gg_io.specs.declared.endings.Ending.{Ending}
use Rattle.gg_cut_plan.specs.Bridges.{Models}
use Rattle.gg_cut_plan.specs.Plan.{IsPlan}
use Rattle.gg_cut_plan.specs.Ports.{first_bridge, first_kept_tray, plan_bridges}
use Rattle.gg_cut_plan.specs.declared.plan.Plan.{Plan}
use Rattle.gg_flat.specs.Clock.{Ratio}
use Rattle.gg_flat.specs.Run.{Start}
use Rattle.gg_flat.specs.Streams.{Flow}
use Rattle.gg_flat.specs.declared.ports.Port.{Port}
use Rattle.gg_io.specs.declared.output.Sink
use Rattle.gg_net.specs.Network.{AllStandAt, Network}
use Rattle.gg_order.specs.Design.{Ordered}
use Rattle.gg_partfile.specs.declared.request.Request.{Request}
use Rattle.gg_rows.specs.Printed.{AreKept, RowsAreKept, plan_stops}
use Rattle.gg_rows.specs.inside.Printed.{IsFirst, ends_run, out_columns, rows_since, rows_to, text_of, text_since}
use Rattle.gg_rows.specs.inside.Rows.{AreTraysOf, outputs_in}
use Rattle.gg_build.specs.StandsAt.{IsNetOfPlan}

-- ---- the trays

-- this is the number of a plan's first tray, whatever request and design it is a plan of
abbrev pub IsFirstTray : Plan → ℕ → Type 0
IsFirstTray plan first =
    (design : Ordered) (request : Request) (models : Models) (default : ℕ) → IsPlan design request models default plan
    → first ≡ first_kept_tray (plan_bridges design.circuit design.tree request)

-- this is the plan's number of trays; they come before the bridges
abbrev pub IsTrayCount : Plan → ℕ → Type 0
IsTrayCount plan count =
    (design : Ordered) (request : Request) (models : Models) (default : ℕ) → IsPlan design request models default plan
    → count ≡ first_bridge (plan_bridges design.circuit design.tree request) - first_kept_tray (plan_bridges design.circuit design.tree request)

-- In a network of a plan these are the values of the out-signals of the plan's circuit in a cycle of its run.
abbrev pub AreOutputsOf : Flow → Network → (first count cycle : ℕ) → (values : List ℕ) → Type 0
AreOutputsOf flow net first count cycle values =
    (plan : Plan) (start : Start) (columns : List (List ℕ)) (n upto : ℕ) (run : IsToRunFrom plan start columns n flow)
    -- The network is one of a plan that is to be run on this flow from this start.
    → IsNetOfPlan plan start (run_token run) columns n net → start.cycle ≤ cycle
    -- It has `count` trays, starting at number `first`.
    → AreTraysOf run first count
    -- All machines are at the end of a window, and the cycle is in it.
    → AllStandAt upto net → cycle < upto → upto ≤ cycle + tray_rows
    → values ≡ outputs_in (plan_circuit run.design run.request run.models) run.rows cycle

-- ---- a network before its first step, starting at cycle `begin`

-- The text of the run is printed on an output: a header, and the rows starting at cycle `begin`.
abbrev pub PrintsTheRest : {K T : Type 0} → Flow → (opening : Network) (begin first count : ℕ) → List Ratio → List Port → Sink.Ghosts K → (before after : K) → Result T Ending → Type 0
PrintsTheRest flow opening begin first count stops ports sink before after result =
    (plan : Plan) (start : Start) (columns : List (List ℕ)) (n : ℕ) (run : IsToRunFrom plan start columns n flow)
    -- The network is the opening network of a plan that is to be run on this flow, and begins in this cycle.
    → IsOpeningFrom plan start (run_token run) columns n opening → start.cycle ≡ begin
    -- It has `count` trays, starting at number `first`, and the stops follow clocks of these ratios.
    → AreTraysOf run first count → stops ≡ plan_stops run.design run.request
    -- The text has the run of the plan's circuit to cycle n, or to the first cycle where a stop acts.
    → PrintsOn sink before after (text_since (plan_stops run.design run.request) (plan_circuit run.design run.request run.models) ports run.rows begin (n - begin)) result

-- Host steps bring the values of these rows to the trays, and bring no others there.
abbrev pub RestIsKept : Flow → (opening : Network) (begin first count : ℕ) → List Ratio → List Port → Type 0
RestIsKept flow opening begin first count stops ports =
    (plan : Plan) (start : Start) (columns : List (List ℕ)) (n : ℕ) (run : IsToRunFrom plan start columns n flow)
    -- The network is the opening network of a plan that is to be run on this flow, and begins in this cycle.
    → IsOpeningFrom plan start (run_token run) columns n opening → start.cycle ≡ begin
    -- It has `count` trays, starting at number `first`, and the stops follow clocks of these ratios.
    → AreTraysOf run first count → stops ≡ plan_stops run.design run.request
    -- There is a row for each row of the text, with a column for each out-signal of the plan's circuit.
    → RowsAreKept opening (first_kept_tray (plan_bridges run.design.circuit run.design.tree run.request)) begin
    (rows_since (plan_stops run.design run.request) (plan_circuit run.design run.request run.models) ports run.rows begin (n - begin))
    (out_columns (plan_circuit run.design run.request run.models) run.rows)

-- ---- a network before its first cycle

-- The text of the run is printed on an output: a header, and the rows.
abbrev pub PrintsTheRun : {K T : Type 0} → Flow → Ordered → Plan → (columns : List (List ℕ)) → (n : ℕ) → List Port → Sink.Ghosts K → (before after : K) → Result T Ending → Type 0
PrintsTheRun flow design plan columns n ports sink before after result =
    -- The plan is one of the design, and is to be run on this flow from cycle 0 and zeros.
    (start : Start) (run : IsToRunFrom plan start columns n flow) → FromZeros run → run.design ≡ design
    -- The text has the run of the plan's circuit to cycle n, or to the first cycle where a stop acts.
    → PrintsOn sink before after (text_of (plan_stops run.design run.request) (plan_circuit run.design run.request run.models) ports run.rows n) result

-- Host steps bring the values of these rows to the trays, and bring no others there.
abbrev pub RunIsKept : Flow → Ordered → Plan → (columns : List (List ℕ)) → (n : ℕ) → List Port → Type 0
RunIsKept flow design plan columns n ports =
    -- The plan is one of the design, and is to be run on this flow from cycle 0 and zeros.
    (start : Start) (run : IsToRunFrom plan start columns n flow) → FromZeros run → run.design ≡ design
    -- There is a row for each row of the text, with a column for each out-signal of the plan's circuit.
    → AreKept run.design run.request plan columns n
    (rows_to (plan_stops run.design run.request) (plan_circuit run.design run.request run.models) ports run.rows n)
    (out_columns (plan_circuit run.design run.request run.models) run.rows)

-- This is the first cycle where a stop ends a run of `cycles` cycles, if there is one.
abbrev pub IsFirstStop : Flow → (opening : Network) (first count : ℕ) → List Ratio → (shown cycles : ℕ) → Option ℕ → Type 0
IsFirstStop flow opening first count stops shown cycles stop =
    (plan : Plan) (start : Start) (columns : List (List ℕ)) (n : ℕ) (ports : List Port) (run : IsToRunFrom plan start columns n flow)
    -- The network is the opening network of a plan that is to be run on this flow, and begins in cycle 0.
    → IsOpeningFrom plan start (run_token run) columns n opening → start.cycle ≡ 0
    -- It has `count` trays, starting at number `first`. The conditions of the stops are their values after the first `shown`. The stops follow clocks
    -- of these ratios.
    → AreTraysOf run first count → shown ≡ length ports → stops ≡ plan_stops run.design run.request
    -- The cycle is the first of the network's n cycles where a stop ends the run of the plan's circuit.
    → IsFirst (ends_run (plan_stops run.design run.request) (plan_circuit run.design run.request run.models) ports run.rows cycles) n stop
