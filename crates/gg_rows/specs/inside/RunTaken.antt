-- How the rows of a plan's network are taken: a row, the rows of a window, and the rows of the whole run.
-- Source: ICCAD 2019 (Golden Gate) for target cycles as rows; MEMOCODE 2009 (the k-th token of each queue is the value of its signal in
-- cycle k, in whatever order the nodes go on).
use Rattle.std.specs.Prelude.{◌≡◌, ℕ, ◌+◌, ◌-◌, ◌<◌, ◌≤◌, List, Bool, Result}
use Rattle.gg_build.specs.Build.{IsOpeningFrom, IsToRunFrom, run_token}
use Rattle.gg_bits.specs.Limits.{tray_rows}
use Rattle.gg_io.specs.declared.endings.Ending.{Ending}
use Rattle.gg_cut_plan.specs.Ports.{first_kept_tray, plan_bridges}
use Rattle.gg_cut_plan.specs.declared.plan.Plan.{Plan}
use Rattle.gg_flat.specs.Run.{Start}
use Rattle.gg_flat.specs.Streams.{Flow}
use Rattle.gg_net.specs.Network.{Network}
use Rattle.gg_rows.specs.inside.Rows.{AreTraysOf, run_row}
use Rattle.gg_build.specs.StandsAt.{StandsAt}
use Rattle.gg_rows.specs.inside.Taken.{Ran, Took, TookTo}

-- The row of a cycle was taken from a network. `takes` describes the taking of a row, as in `TookTo`.
abbrev pub TakesTheRow : {T : Type 0} (takes : T → ℕ → List ℕ → T → Result Bool Ending → Type 0) → Flow → Network → (first count cycle : ℕ) → (before after : T) → Result Bool Ending → Type 0
TakesTheRow takes flow net first count cycle before after answer =
    (plan : Plan) (start : Start) (columns : List (List ℕ)) (n upto : ℕ) (run : IsToRunFrom plan start columns n flow)
    -- The network is one of a plan that is to be run on this flow from this start, and is at the end of a window.
    → StandsAt plan start (run_token run) columns n upto net → start.cycle ≤ cycle
    -- It has `count` trays, starting at number `first`, and the cycle is in the window.
    → AreTraysOf run first count → cycle < upto → upto ≤ cycle + tray_rows
    -- The row that was taken is from the run of the plan's circuit.
    → takes before cycle (run_row run cycle) after answer

-- The rows of a window, starting at cycle `begun`, were taken from a network, after the rows of the windows before it.
abbrev pub TakesTheWindow : {T : Type 0} (takes : T → ℕ → List ℕ → T → Result Bool Ending → Type 0) → Flow → Network → (first count begun upto : ℕ) → (old new : T) → Result Bool Ending → Type 0
TakesTheWindow {T = T} takes flow net first count begun upto old new answer =
    (plan : Plan) (start : Start) (columns : List (List ℕ)) (n : ℕ) (run : IsToRunFrom plan start columns n flow) (before : T)
    -- The network is one of a plan that is to be run on this flow from this start, and is at the end of the window.
    → StandsAt plan start (run_token run) columns n upto net
    -- It has `count` trays, starting at number `first`, and they keep at least a window's values.
    → AreTraysOf run first count → start.cycle ≤ begun → begun ≤ upto → upto ≤ begun + tray_rows
    -- The rows before the window were taken, starting with `before`.
    → TookTo takes (run_row run) start.cycle before (begun - start.cycle) old
    -- Then the rows up to the end of the window are taken, or up to a row that is the last one.
    → (taken : ℕ) × Took takes (run_row run) start.cycle (upto - start.cycle) taken before new answer

-- The rows of a run were taken from a network before its first step, starting at cycle `begin`.
abbrev pub TakesTheRun : {T : Type 0} (takes : T → ℕ → List ℕ → T → Result Bool Ending → Type 0) → Flow → (opening : Network) (begin first count : ℕ) → (before after : T) → Result Bool Ending → Type 0
TakesTheRun takes flow opening begin first count before after answer =
    (plan : Plan) (start : Start) (columns : List (List ℕ)) (n : ℕ) (run : IsToRunFrom plan start columns n flow)
    -- The network is the opening network of a plan that is to be run on this flow, and begins in this cycle.
    → IsOpeningFrom plan start (run_token run) columns n opening → start.cycle ≡ begin
    -- It has `count` trays, starting at number `first`.
    → AreTraysOf run first count
    -- The rows are from the run of the plan's circuit, up to cycle n or to a row that is the last one, and they came to the trays.
    → Ran takes (run_row run) opening (first_kept_tray (plan_bridges run.design.circuit run.design.tree run.request)) begin (n - begin) before after answer
