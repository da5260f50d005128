-- Laws of a plan's networks: before the first step, as long as their frame stays, and of the values that come to their trays.
-- Source: MEMOCODE 2009 (the k-th token of a queue is the value of its signal in cycle k, in whatever order the nodes go on).
use Rattle.std.specs.Prelude.{◌≡◌, ℕ, ◌+◌, ◌<◌, ◌≤◌, List, length, take}
use Rattle.gg_flat.specs.Run.{Start}
use Rattle.gg_flat.specs.Streams.{Flow}
use Rattle.gg_cut_plan.specs.Ports.{first_kept_tray, plan_bridges}
use Rattle.gg_cut_plan.specs.declared.plan.Plan.{Plan}
use Rattle.gg_net.specs.Kept.{Kept}
use Rattle.gg_net.specs.Network.{Network, frame_of, AllStandAt}
use Rattle.gg_cut_reference.specs.whole.Whole.{plan_circuit}
use Rattle.gg_build.specs.Build.{IsOpeningFrom, IsToRunFrom, run_token}
use Rattle.gg_bits.specs.Limits.{tray_rows}
use Rattle.gg_rows.specs.Rows.{TraysKeep}
use Rattle.gg_rows.specs.inside.Rows.{outputs_in}
use Rattle.gg_build.specs.StandsAt.{IsNetOfPlan}

-- A plan's network before its first step has the invariant `Kept`.
abbrev pub OpeningsAreKept : Type 0
OpeningsAreKept =
    (plan : Plan) (start : Start) (columns : List (List ℕ)) (n : ℕ) (flow : Flow) (run : IsToRunFrom plan start columns n flow) (net : Network)
    -- The plan is to be run from this start, and this is its network before the first step.
    → IsOpeningFrom plan start (run_token run) columns n net
    -- It is kept.
    → Kept flow net

-- A network of a plan stays one as long as its frame stays.
abbrev pub NetsStayOfThePlan : Type 0
NetsStayOfThePlan =
    (plan : Plan) (start : Start) (token : ℕ → ℕ) (columns : List (List ℕ)) (n : ℕ) (old new : Network)
    -- The old network is the plan's, and the new one has its frame.
    → IsNetOfPlan plan start token columns n old → frame_of new ≡ frame_of old
    -- The new one is the plan's too.
    → IsNetOfPlan plan start token columns n new

-- Host steps bring to the trays the outputs of the circuit, for each cycle of a window.
abbrev pub TraysGetTheOutputs : Type 0
TraysGetTheOutputs =
    (plan : Plan) (start : Start) (columns : List (List ℕ)) (n : ℕ) (flow : Flow) (run : IsToRunFrom plan start columns n flow) (opening net : Network) (upto t : ℕ)
    -- `opening` is the plan's network before its first step, and `net` goes on from it.
    → IsOpeningFrom plan start (run_token run) columns n opening → Kept flow net → frame_of net ≡ frame_of opening
    -- All machines of `net` are at the end of a window, and t is one of its cycles.
    → AllStandAt upto net → start.cycle ≤ t → t < upto → upto ≤ t + tray_rows
    -- Exactly the outputs of the plan's circuit in cycle t come to the trays that no bridge has taken.
    → TraysKeep opening (first_kept_tray (plan_bridges run.design.circuit run.design.tree run.request)) t (outputs_in (plan_circuit run.design run.request run.models) run.rows t)

-- Whatever values come to the trays in a cycle are the outputs of the circuit in that cycle.
abbrev pub TraysGetNothingElse : Type 0
TraysGetNothingElse =
    (plan : Plan) (start : Start) (columns : List (List ℕ)) (n : ℕ) (flow : Flow) (run : IsToRunFrom plan start columns n flow) (opening : Network) (t : ℕ) (values : List ℕ)
    -- `opening` is the plan's network before its first step.
    → IsOpeningFrom plan start (run_token run) columns n opening
    -- Host steps bring these values of cycle t to the trays, no more than there are outputs.
    → length values ≤ length (plan_circuit run.design run.request run.models).outs
    → TraysKeep opening (first_kept_tray (plan_bridges run.design.circuit run.design.tree run.request)) t values
    -- They are the first outputs of the plan's circuit in that cycle.
    → values ≡ take (length values) (outputs_in (plan_circuit run.design run.request run.models) run.rows t)
