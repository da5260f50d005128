use Rattle.gg_flat_tree.proofs.tree.Tree.add_memory.Goals as goal

pub returns-in-Err-clause-doubled : goal.returns-in-Err-clause-doubled
returns-in-Err-clause-doubled c = λ e. rw (← c.self.view_is) (c.in-Err.ensures.doubled.0 e)
