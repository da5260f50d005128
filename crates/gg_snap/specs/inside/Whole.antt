-- More on Whole: definitions that no promise of the program reaches.
-- Source: MEMOCODE 2009 (a network of machines has the state of the synchronous circuit that it was cut from, each machine its part, and a
-- pipe's register is the token in its channel).
use Rattle.std.specs.Prelude.{◌≡◌, ℕ, List, []}
use Rattle.gg_flat.specs.Run.{Start}
use Rattle.gg_flat.specs.State.{State}
use Rattle.gg_flat.specs.Streams.{Flow}
use Rattle.gg_cut_plan.specs.declared.plan.Plan.{Plan}
use Rattle.gg_order.specs.Design.{Ordered}
use Rattle.gg_build.specs.Build.{IsToRunFrom}

-- The network of a plan of a design can be run from this cycle and this state. The plan has no bridges.
pub record CanBegin (plan : Plan) (design : Ordered) (cycle : ℕ) (state : State) (start : Start) (columns : List (List ℕ)) (n : ℕ) (flow : Flow) : Type 0 where
  pub run : IsToRunFrom plan start columns n flow
  pub of_design : run.design ≡ design
  pub alone : run.request.bridges ≡ []
  pub at_cycle : start.cycle ≡ cycle
  pub in_state : start.state ≡ state
