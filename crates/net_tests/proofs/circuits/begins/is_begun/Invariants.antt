use Rattle.net_tests.proofs.CircuitsLemmas.BeginLemmas.{begun_flow}
use Rattle.net_tests.proofs.circuits.begins.is_begun.Given as goal

-- what the plan's network computes from there
abbrev pub ghosts-is_built_from : goal.ghosts-is_built_from
ghosts-is_built_from a = record { flow = begun_flow a._design.now a._request.now a._models.now a.plan.now a.begin.now a.inputs.now.columns a.inputs.now.rows }
