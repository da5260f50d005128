-- The run of a plan's network, and the network before its first step.
-- Source: MEMOCODE 2009 (a synchronous circuit as a network of its parts, with the circuit's own streams); ICCAD
-- 2019 (units and memories of a target as models of their own).
use Rattle.std.specs.Prelude.{◌≡◌, ℕ, ◌≤◌, List}
use Rattle.gg_bits.specs.Limits.{capacity_limit}
use Rattle.gg_flat.specs.Along.{rows_from}
use Rattle.gg_flat.specs.Run.{Start}
use Rattle.gg_flat.specs.Streams.{Flow}
use Rattle.gg_order.specs.Design.{Ordered}
use Rattle.gg_partfile.specs.declared.request.Request.{Request}
use Rattle.gg_cut_plan.specs.declared.plan.Plan.{Plan}
use Rattle.gg_cut_plan.specs.Bridges.{Models}
use Rattle.gg_cut_reference.specs.Follows.{plan_start, plan_token}
use Rattle.gg_order.specs.Found.{found_order}
use Rattle.gg_cut_reference.specs.whole.Whole.{plan_begin, plan_circuit}
use Rattle.gg_node.specs.Machine.{Machine}
use Rattle.gg_net.specs.Network.{Network}
use Rattle.gg_net.specs.Net.{opening_net}
use Rattle.gg_build.specs.plan.Built.{AreBuilt, IsGiven, body_start, flow_of, wires_of_plan}

-- the order of the plan's circuit, found from the circuit only
abbrev pub circuit_order : Ordered → Request → Models → List ℕ
circuit_order design request models = found_order (plan_circuit design request models)

-- the rows of the plan's circuit on these columns, from the request's start, computed along its order
abbrev pub circuit_rows : Ordered → Request → Models → List (List ℕ) → ℕ → List (List ℕ)
circuit_rows design request models columns n = rows_from (plan_circuit design request models) (circuit_order design request models) (plan_begin design request models (plan_start design request)) columns n

-- The flow of the plan's network, from its circuit's run on these columns.
abbrev pub flow_along : Ordered → Request → Models → Plan → List (List ℕ) → ℕ → Flow
flow_along design request models plan columns n = flow_of design request plan (plan_start design request) (circuit_rows design request models columns n)

-- ---- a run

-- The network of the plan can be run from a start on its sources' columns, up to cycle n. It is a plan of a design and of a request without a fault
-- for it. A channel that the request doesn't name may hold at most as many tokens as a queue. The rows are the run of the plan's circuit from the
-- start on these columns of its inputs, and the flow is what the network computes in this run. The plan's circuit is the reference circuit with the
-- models of the bridges.
pub record IsToRunFrom (plan : Plan) (start : Start) (columns : List (List ℕ)) (n : ℕ) (flow : Flow) : Type 0 where
  pub design : Ordered
  pub request : Request
  pub models : Models
  -- the capacity of the channels that the request doesn't name
  pub default : ℕ
  -- the run of the plan's circuit from the start
  pub rows : List (List ℕ)
  pub given : IsGiven design request models default plan columns n start rows
  pub room : default ≤ capacity_limit
  pub flow_is : flow ≡ flow_of design request plan start rows

-- the token of each signal's pipe, in the network that is run from a start
abbrev pub run_token : {plan : Plan} {start : Start} {columns : List (List ℕ)} {n : ℕ} {flow : Flow} → IsToRunFrom plan start columns n flow → ℕ → ℕ
run_token {start = start} run s = plan_token run.design run.request start.state s

-- ---- the network before its first step

-- The network is the plan's before its first step. It has the plan's machines, each with its part of this start, and the plan's channels, with these
-- tokens in their pipes. It has to do its cycles below n.
pub record IsOpeningFrom (plan : Plan) (start : Start) (token : ℕ → ℕ) (columns : List (List ℕ)) (n : ℕ) (net : Network) : Type 0 where
  pub machines : List Machine
  pub built : AreBuilt plan (body_start start) columns machines
  pub is : net ≡ opening_net machines (wires_of_plan token plan) n

-- The network is the plan's before its first cycle, with zeros, for a design and a request.
abbrev pub IsOpeningOf : Ordered → Request → Plan → (columns : List (List ℕ)) → (n : ℕ) → Network → Type 0
IsOpeningOf design request plan columns n net = IsOpeningFrom plan (plan_start design request) (plan_token design request (plan_start design request).state) columns n net
