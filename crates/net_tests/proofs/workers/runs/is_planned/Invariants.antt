use Rattle.gg_build.specs.Build.{flow_along}
use Rattle.net_tests.proofs.workers.runs.is_planned.Given as goal

-- what the plan's network computes on the trace
abbrev pub ghosts-is_plan_run : goal.ghosts-is_plan_run
ghosts-is_plan_run g a = record { flow = flow_along a._design.now a._request.now a._models.now a.plan.now a.inputs.now.columns a.inputs.now.rows }
