use Rattle.std.proofs.Common.{sym, subst}
use Rattle.gg_flat_tree.specs.inside.Clocked.{AreParentsBefore}
use Rattle.gg_cut_plan.proofs.KnownLemmas.{parents-before}
use Rattle.gg_cut_parts.proofs.domains.domains_of.Goals as goal

pub top_clocks-requires : goal.top_clocks-requires
top_clocks-requires c = subst AreParentsBefore (sym c.tree.ensures.tree) (parents-before c.args.design.now.circuit c.args.design.now.tree c.requires.keeps.fitting)
