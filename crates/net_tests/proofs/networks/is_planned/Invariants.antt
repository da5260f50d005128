use Rattle.gg_build.specs.Build.{flow_along}
use Rattle.net_tests.proofs.networks.is_planned.Given as goal

-- what the plan's network computes on the trace
abbrev pub ghosts-is_built : goal.ghosts-is_built
ghosts-is_built a = record { flow = flow_along a._design.now a._request.now a._models.now a.plan.now a.inputs.now.columns a.inputs.now.rows }
