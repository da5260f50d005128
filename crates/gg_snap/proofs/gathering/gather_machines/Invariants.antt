use Rattle.std.proofs.Common.{◌≡◌}
use Rattle.gg_flat.specs.State.{State}
use Rattle.gg_cut_plan.specs.declared.plan.Plan.{Plan}
use Rattle.gg_snap.specs.inside.Gathered.{AreDone, AreIn, IsSized}
use Rattle.gg_snap.proofs.gathering.gather_machines.Given as goal

abbrev pub invariant-loop-m : goal.invariant-loop-m
invariant-loop-m g l = IsSized l.piece l.draft × ((plan : Plan) (whole : State) → plan.machines ≡ l.machines → AreIn l.piece plan l.net whole → AreDone plan whole l.m l.draft)
