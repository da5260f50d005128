use Rattle.std.proofs.Common.{◌≡◌, sym, ◌∙◌, []}
use Rattle.std.proofs.lemmas.Result.{IfOk-weaker}
use Rattle.gg_flat_tree.specs.Tree.{path_at}
use Rattle.gg_cut_parts.proofs.PathLemmas.{missing-path}
use Rattle.gg_cut_machines.proofs.names.memory_name.Goals as goal

pub returns-in-None : goal.returns-in-None
returns-in-None c = IfOk-weaker c.from_str.result (λ name. name ≡ []) (λ name. name ≡ path_at c.args.tree.now.memory_paths c.args.place) (λ name e. e ∙ missing-path c.args.tree.now.memory_paths c.args.place (sym c.in-None.ensures)) c.from_str.ensures
