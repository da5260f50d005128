-- The network of a plan while it runs, and the cycle of its machines.
-- Source: MEMOCODE 2009 (a network of nodes goes on by steps; its nodes and its channels stay what they are).
use Rattle.std.specs.Prelude.{◌≡◌, ℕ, ◌≤◌, List}
use Rattle.gg_flat.specs.Run.{Start}
use Rattle.gg_cut_plan.specs.declared.plan.Plan.{Plan}
use Rattle.gg_node.specs.Machine.{Machine}
use Rattle.gg_net.specs.Network.{Network, frame_of, AllStandAt}
use Rattle.gg_build.specs.plan.Built.{AreBuilt, body_start, plan_frame}

-- The network is the plan's, at any time of its run from a start, with these tokens in its pipes at the start. Its frame is the frame that the plan's
-- network has before its first step.
pub record IsNetOfPlan (plan : Plan) (start : Start) (token : ℕ → ℕ) (columns : List (List ℕ)) (n : ℕ) (net : Network) : Type 0 where
  pub machines : List Machine
  pub built : AreBuilt plan (body_start start) columns machines
  pub frame : frame_of net ≡ plan_frame token plan machines n

-- The network is the plan's, and all its machines are in this cycle.
pub record StandsAt (plan : Plan) (start : Start) (token : ℕ → ℕ) (columns : List (List ℕ)) (n cycle : ℕ) (net : Network) : Type 0 where
  pub of_plan : IsNetOfPlan plan start token columns n net
  pub all : AllStandAt cycle net
  pub within : cycle ≤ n
