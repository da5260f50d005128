use Rattle.gg_cut_plan.proofs.PathLemmas.{look-up}
use Rattle.gg_cut_rules.proofs.paths.memory.Goals as goal

pub returns : goal.returns
returns c = look-up c.args.tree.now.memory_paths c.args.path.now c.find_memory.result c.memory_count.ensures.distinct c.find_memory.ensures.found c.find_memory.ensures.missing
