-- The state of the reference circuit that a plan's network is in at the end of its run, and the network that begins with a state.
-- Source: MEMOCODE 2009 (a network of machines has the state of the synchronous circuit that it was cut from, each machine its part, and a
-- pipe's register is the token in its channel).
use Rattle.std.specs.Prelude.{◌≡◌, ℕ, drop, List, []}
use Rattle.gg_flat.specs.Run.{Start, since, state_at}
use Rattle.gg_flat.specs.State.{State}
use Rattle.gg_flat.specs.Streams.{Flow}
use Rattle.gg_cut_plan.specs.declared.plan.Plan.{Plan}
use Rattle.gg_order.specs.Design.{Ordered}
use Rattle.gg_cut_reference.specs.Made.{plan_reference}
use Rattle.gg_net.specs.Network.{Network}
use Rattle.gg_build.specs.Build.{IsToRunFrom, run_token}
use Rattle.gg_build.specs.StandsAt.{StandsAt}

-- The state of the reference circuit after the last cycle of a run. Without bridges the run is one of the reference circuit.
abbrev pub last_state : {plan : Plan} {start : Start} {columns : List (List ℕ)} {n : ℕ} {flow : Flow} → IsToRunFrom plan start columns n flow → State
last_state {start = start} {n = n} run = state_at (plan_reference run.design run.request) start (drop start.cycle run.rows) (since start.cycle n)

-- The network of a plan of a design is at the end of its run. The plan has no bridges.
pub record HasEnded (plan : Plan) (design : Ordered) (start : Start) (columns : List (List ℕ)) (n : ℕ) (flow : Flow) (net : Network) : Type 0 where
  pub run : IsToRunFrom plan start columns n flow
  pub of_design : run.design ≡ design
  pub alone : run.request.bridges ≡ []
  pub stands : StandsAt plan start (run_token run) columns n n net
