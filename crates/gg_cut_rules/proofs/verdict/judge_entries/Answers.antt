use Rattle.std.proofs.Common.{◌≡◌, subst}
use Rattle.std.specs.Prelude.{IfOk}
use Rattle.gg_flat_tree.specs.Tree.{InstanceTree}
use Rattle.gg_cut_plan.specs.Listed.{listed_of}
use Rattle.gg_cut_plan.specs.Fault.{Tells, entry_faults}
use Rattle.gg_bits.specs.Lists.{first_of}
use Rattle.gg_cut_rules.proofs.verdict.judge_entries.Goals as goal

pub returns-clause-told : goal.returns-clause-told
returns-clause-told c =
    subst (λ (tree : InstanceTree). Tells (first_of (entry_faults tree c.args.request.now)) c.judge_listed.result) c.tree.ensures.tree c.judge_listed.ensures.told

pub returns-clause-listed : goal.returns-clause-listed
returns-clause-listed c =
    subst (λ (tree : InstanceTree). IfOk c.judge_listed.result (λ listed. listed ≡ listed_of tree c.args.request.now)) c.tree.ensures.tree c.judge_listed.ensures.listed
