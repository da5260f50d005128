-- More on Replayed: definitions that no promise of the program reaches.
-- Source: this program's own.
use Rattle.std.specs.Prelude.{◌≡◌, ℕ, ◌<◌, ◌^◌, length}
use Rattle.gg_flat.specs.Run.{Start}
use Rattle.gg_flat.specs.Streams.{Flow}
use Rattle.gg_flat_tree.specs.Tree.{InstanceTree}
use Rattle.gg_cut_plan.specs.declared.plan.Plan.{Plan}
use Rattle.gg_cut_reference.specs.Follows.{plan_start}
use Rattle.gg_build.specs.Build.{IsToRunFrom}
use Rattle.golden_commands.specs.Replay.{port_names}
use Rattle.golden_commands.specs.declared.case.Fed.{Fed}

-- ---- names

-- Numbers of 32 bits suffice for these names.
pub record AreFewNames (plan : Plan) (tree : InstanceTree) : Type 0 where
  pub channels : length plan.channels < 2 ^ 32
  pub machines : length plan.machines < 2 ^ 32
  pub ports : (m : ℕ) → length (port_names tree plan.listed m) < 2 ^ 32

-- ---- steps

-- the start of the whole run
abbrev pub fed_start : Fed → Start
fed_start fed = plan_start fed.case.design fed.case.cut.request

-- The plan's network can be run from there for this flow, on these files.
pub record IsToReplay (fed : Fed) (flow : Flow) : Type 0 where
  pub run : IsToRunFrom fed.case.cut.plan (fed_start fed) fed.trace.columns fed.trace.rows flow
  pub of_design : run.design ≡ fed.case.design
  pub of_request : run.request ≡ fed.case.cut.request
